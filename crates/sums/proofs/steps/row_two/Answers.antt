-- `sums::steps::row_two` meets its contract. Assumes nothing.
use native.Mathlib.Omega.{arith}
use Rattle.sums.proofs.steps.Fronts.{front}
use Rattle.sums.proofs.steps.Slides.{front-slid}
use Rattle.sums.proofs.steps.row_two.Goals as goal

pub slide-a-requires : goal.slide-a-requires
slide-a-requires c = let p = c.requires in (p.0, omega (arith, p.1), omega (arith, p.1), p.2)

pub slide-b-requires : goal.slide-b-requires
slide-b-requires c = let p = c.requires in (p.0, omega (arith, p.1), omega (arith, p.1), p.2)

pub returns : goal.returns
unfolding front
returns c =
    rw (c.slide-a.ensures, c.slide-b.ensures) (front-slid c.args.p.now c.args.s c.args.gap 2 2 0 c.requires.0 (omega arith))
