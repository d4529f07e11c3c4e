-- `sums::steps::row_four` meets its contract. Assumes nothing.
use native.Mathlib.Omega.{arith}
use Rattle.sums.proofs.steps.Fronts.{front}
use Rattle.sums.proofs.steps.Slides.{front-slid}
use Rattle.sums.proofs.steps.row_four.Goals as goal

pub slide-a-requires : goal.slide-a-requires
slide-a-requires c = let p = c.requires in (p.0, omega (arith, p.1), omega (arith, p.1), p.2)

pub slide-b-requires : goal.slide-b-requires
slide-b-requires c = let p = c.requires in (p.0, omega (arith, p.1), omega (arith, p.1), p.2)

pub slide-c-requires : goal.slide-c-requires
slide-c-requires c = let p = c.requires in (p.0, omega (arith, p.1), omega (arith, p.1), p.2)

pub slide-d-requires : goal.slide-d-requires
slide-d-requires c = let p = c.requires in (p.0, omega (arith, p.1), omega (arith, p.1), p.2)

pub returns-then-wide : goal.returns-then-wide
unfolding front
returns-then-wide c =
    rw (c.slide-a.ensures, c.slide-b.ensures, c.slide-c.ensures, c.slide-d.ensures, c.if-wide.true)
    (front-slid c.args.p.now c.args.s c.args.gap 4 4 0 c.requires.0 (omega arith))

pub returns : goal.returns
unfolding front
returns c =
    rw (c.slide-a.ensures, c.slide-b.ensures, c.slide-c.ensures, c.if-wide.false)
    (front-slid c.args.p.now c.args.s c.args.gap 3 3 1 c.requires.0 (omega arith))
