-- A reply as it is written: its first eight bytes, then the points, and the rest of the slice as it was. Assumes nothing.
use mathlib.Core.Path.{◌≡◌, refl}
use mathlib.Core.List.{List, [], ◌∷◌, ◌++◌, append_assoc}
use Prim.Native.Nat.{ℕ, ◌+◌, ◌*◌, ◌-◌, ◌/◌, ◌%◌, ◌≤◌}
use native.Mathlib.Omega.{arith}
use lib.IntN.{ℤ}
use lib.ListN.{length, take, drop, set}
use Rattle.request.specs.declared.Answer.{Answer}
use Rattle.wire.specs.Words.{word_bytes, number_bytes}
use Rattle.wire.specs.Start.{start, record_start, record_of}
use Rattle.replies.specs.Reply.{reply_kind, answer_bytes, reply_record, over}
use Rattle.wire.proofs.Words.{numbers-length}
use Rattle.replies.proofs.Over.{over-more, over-part}

pub reply-length : (a : Answer) (points : List ℤ) → length (reply_record a points) ≡ start + 2 * length points
unfolding reply_record record_of record_start word_bytes answer_bytes
reply-length a points = omega (arith, numbers-length points)

pub reply-parts : (a : Answer) (points : List ℤ) (size : ℕ) → size ≡ start + 2 * length points
    → record_start size reply_kind ++ answer_bytes a ++ number_bytes points ≡ reply_record a points
unfolding reply_record record_of answer_bytes
reply-parts a points size e =
    let f : size ≡ 4 + length (answer_bytes a ++ number_bytes points) = omega (arith, numbers-length points) in
    rw (append_assoc, f)

pub head-written : (a : Answer) (size : ℕ) (lent : List ℕ) → start ≤ length lent
    → let begun = set (set (set (set lent 0 (size % 256)) 1 (size / 256)) 2 (reply_kind % 256)) 3 (reply_kind / 256) in
    set (set (set (set begun 4 a.number) 5 a.place) 6 a.count) 7 0
    ≡ over (record_start size reply_kind ++ answer_bytes a) lent
unfolding over record_start word_bytes answer_bytes
head-written a size lent m = over-more [] lent (size % 256 ∷ size / 256 ∷ reply_kind % 256 ∷ reply_kind / 256 ∷ a.number ∷ a.place ∷ a.count ∷ 0 ∷ []) m

eight : (a : Answer) (size : ℕ) → length (record_start size reply_kind ++ answer_bytes a) ≡ start
unfolding record_start word_bytes answer_bytes
eight a size = refl

pub reply-written : (a : Answer) (points : List ℤ) (size : ℕ) (lent l rest : List ℕ) → size ≡ start + 2 * length points → start ≤ length lent
    → l ≡ over (record_start size reply_kind ++ answer_bytes a) lent → rest ≡ over (number_bytes points) (take (length l - start) (drop start l))
    → take start l ++ (rest ++ drop (length l - start) (drop start l)) ≡ over (reply_record a points) lent
reply-written a points size lent l rest e m f g =
    rw (g, f, ← reply-parts a points size e) (over-part (record_start size reply_kind ++ answer_bytes a) lent (number_bytes points) start (eight a size) m)
