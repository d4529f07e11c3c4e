-- `door::judge_record` meets its contract: the door's own table, and the last word is the composer's. Assumes nothing.
use mathlib.Core.Path.{◌≡◌}
use Rattle.std.proofs.Common.{rules}
use mathlib.Core.List.{List}
use Prim.Native.Nat.{ℕ}
use Rattle.request.specs.declared.Answer.{Answer}
use Rattle.judgement.specs.Judgement.{tested}
use Rattle.judgement.proofs.Order.{composed-last}
use Rattle.door.proofs.Composing.{readable, refused-given}
use Rattle.door.proofs.judge_record.Goals as goal

-- no test of the door's own holds
none : (request : List ℕ) {refusal : Answer} → refusal ≡ tested request → refusal.number ≡ 0 → (tested request).number ≡ 0
none request is z = rw is at z

pub returns-then-is_refused : goal.returns-then-is_refused
returns-then-is_refused c = refused-given _ _ _ c.open_record-opened.ensures.refusal_is (search rules)

pub compose_in-requires : goal.compose_in-requires
compose_in-requires c =
    (readable _ _ _ _ c.open_record-opened.ensures.read (none _ c.open_record-opened.ensures.refusal_is (search rules)), c.requires)

pub returns : goal.returns
returns c = rw (composed-last _ (none _ c.open_record-opened.ensures.refusal_is (search rules))) c.compose_in.ensures
