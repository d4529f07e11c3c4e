-- `card::filled` meets its contract: each turn fills one place. Assumes nothing.
use mathlib.Core.Path.{◌≡◌, refl}
use native.Mathlib.Omega.{arith}
use lib.Ieee.{of_bits, of_int}
use Rattle.floats.specs.Float.{float}
use Rattle.card.proofs.Places.{none_filled, one-filled}
use Rattle.card.proofs.filled.Goals as goal

pub loop-R-init : goal.loop-R-init
unfolding float of_bits of_int
loop-R-init c = none_filled refl

pub loop-R-preserved : goal.loop-R-preserved
loop-R-preserved c = one-filled c.loop-R.invariant (omega arith) c.blossom.ensures

pub returns : goal.returns
returns c =
    let e : c.loop-R.R ≡ c.args.count = omega arith in
    rw e at c.loop-R.invariant
