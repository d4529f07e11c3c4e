-- `door::door_reply` meets its contract: without room nothing happens; otherwise the reply that is judged is written.
-- Assumes nothing.
use mathlib.Core.Path.{◌≡◌, sym}
use Prim.Native.Nat.{ℕ, ◌≤◌}
use native.Mathlib.Omega.{arith}
use lib.IntN.{ℤ}
use lib.ListN.{length}
use mathlib.Core.List.{List}
use Rattle.request.specs.declared.Answer.{Answer}
use Rattle.request.specs.Head.{most_points}
use Rattle.judgement.specs.Judgement.{judged}
use lib.Seq.{length-take-le}
use Rattle.door.proofs.Sending.{judged-fits, sendable, points-sent}
use Rattle.door.proofs.Room.{no_room, sent}
use Rattle.door.proofs.door_reply.Goals as goal

pub returns-then-reply-lt-ROOM : goal.returns-then-reply-lt-ROOM
returns-then-reply-lt-ROOM c = no_room _ _ (omega arith)

-- the count is within the places that were lent
within : (request : List ℕ) {answer : Answer} (l : List ℤ) → answer ≡ judged request → length l ≡ most_points → answer.count ≤ length l
within request l is long = rw (is, long) (judged-fits request).few

pub slice_bounds-points-end : goal.slice_bounds-points-end
slice_bounds-points-end c = within _ _ c.judge_record-answer.ensures.answered c.judge_record-answer.auto.points

pub slice_bounds-write_reply-end : goal.slice_bounds-write_reply-end
slice_bounds-write_reply-end c =
    sym (length-take-le _ _ (within _ _ c.judge_record-answer.ensures.answered c.judge_record-answer.auto.points))

pub write_reply-requires : goal.write_reply-requires
write_reply-requires c =
    let given = c.judge_record-answer.ensures in
    (rw (points-sent _ _ _ _ given, given.answered) (sendable _), omega arith)

pub returns : goal.returns
returns c =
    let given = c.judge_record-answer.ensures in
    sent _ _ (omega arith) _ _ _ _ given.answered (points-sent _ _ _ _ given) c.write_reply.ensures
