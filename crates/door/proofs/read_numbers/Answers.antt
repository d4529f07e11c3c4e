-- `door::read_numbers` meets its contract: the places passed are read, the others are still as they were; a two-byte number fits 32 bits,
-- and so does what is read back. Assumes nothing.
use mathlib.Core.Path.{◌≡◌, sym, ◌∙◌}
use native.Mathlib.Omega.{arith}
use lib.IntN.{ℤ}
use mir.Syntax.{w32, w64}
use mir.Val.{SFits, to_z, of_z}
use mir.Facts.{to_z-of_z, sfits_widen}
use Rattle.lists.proofs.Written.{afterwards-none, afterwards-more}
use Rattle.wire.specs.Words.{Short, number_at}
use Rattle.door.proofs.read_numbers.Goals as goal

read-back : (z : ℤ) → Short z → to_z w32 (of_z w32 (to_z w64 (of_z w64 z))) ≡ z
read-back z m =
    let fits : SFits w32 z = record { sfits = omega arith } in
    rw (to_z-of_z (sfits_widen {w' = w64} tt fits), to_z-of_z fits)

pub loop-k-init : goal.loop-k-init
loop-k-init c = sym (afterwards-none _ _)

pub loop-k-preserved : goal.loop-k-preserved
unfolding number_at
loop-k-preserved c =
    let read = number_at c.args.bytes.now c.args.from in
    let number = c.number_at.ensures in
    rw c.loop-k.invariant (afterwards-more c.loop-k.k read c.args.numbers.now _ (omega arith) (read-back _ number.1 ∙ number.0))

pub returns : goal.returns
returns c =
    let e : c.loop-k.k ≡ c.args.count = omega arith in
    rw (← e) c.loop-k.invariant
