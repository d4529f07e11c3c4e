-- `replies::write_numbers` meets its contract: the numbers passed are written, the rest is still as it was. Assumes nothing.
use mathlib.Core.Path.{◌≡◌, refl, ◌∙◌}
use mathlib.Core.List.{List}
use Prim.Native.Nat.{ℕ, ◌+◌, ◌*◌, ◌/◌, ◌%◌, ◌≤◌, ◌<◌}
use native.Mathlib.Omega.{arith}
use lib.IntN.{ℤ, pos}
use lib.ListN.{length, get_or, take, set}
use Rattle.wire.specs.Words.{unsigned, number_bytes}
use Rattle.replies.specs.Reply.{over}
use Rattle.wire.proofs.Words.{numbers-next, numbers-before}
use Rattle.replies.proofs.Over.{over_word}
use Rattle.replies.proofs.write_numbers.Goals as goal

-- one number more is written
next : (l : List ℤ) (k : ℕ) (bytes lent : List ℕ) {z : ℤ} {word : ℕ} → k < length l → 2 * length l ≤ length lent
    → bytes ≡ over (number_bytes (take k l)) lent → z ≡ get_or l k (pos 0) → word ≡ unsigned z
    → set (set bytes (2 * k) (word % 256)) (2 * k + 1) (word / 256) ≡ over (number_bytes (take (k + 1) l)) lent
next l k bytes lent {word = word} m room e f g =
    let here = over_word (number_bytes (take k l)) lent (2 * k) word (numbers-before l k (omega arith)) (omega arith) in
    rw (e, here, numbers-next l k m f g)

pub loop-k-init : goal.loop-k-init
unfolding number_bytes over
loop-k-init c = refl

pub loop-k-preserved : goal.loop-k-preserved
loop-k-preserved c =
    let number = c.units_of-number.ensures ∙ c.travel_at.ensures in
    rw c.put_word.ensures (next _ c.loop-k.k _ _ (omega arith) (omega arith) c.loop-k.invariant number c.word_of.ensures)
