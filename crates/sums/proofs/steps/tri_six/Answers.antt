-- `sums::steps::tri_six` meets its contract. Assumes nothing.
use native.Mathlib.Omega.{arith}
use Rattle.sums.specs.steps.Layout.{before, diagonal, further}
use Rattle.sums.proofs.steps.Fronts.{front}
use Rattle.sums.proofs.steps.Triangles.{front-lowered}
use Rattle.sums.proofs.steps.tri_six.Goals as goal

pub tri-a-requires : goal.tri-a-requires
tri-a-requires c = let p = c.requires in (p.0, omega arith, omega arith, p.1)

pub tri-b-requires : goal.tri-b-requires
tri-b-requires c = let p = c.requires in (p.0, omega arith, omega arith, p.1)

pub tri-c-requires : goal.tri-c-requires
tri-c-requires c = let p = c.requires in (p.0, omega arith, omega arith, p.1)

pub tri-d-requires : goal.tri-d-requires
tri-d-requires c = let p = c.requires in (p.0, omega arith, omega arith, p.1)

pub tri-e-requires : goal.tri-e-requires
tri-e-requires c = let p = c.requires in (p.0, omega arith, omega arith, p.1)

pub tri-f-requires : goal.tri-f-requires
tri-f-requires c = let p = c.requires in (p.0, omega arith, omega arith, p.1)

pub returns : goal.returns
unfolding front before further diagonal
returns c =
    rw (
      c.tri-a.ensures,
      c.tri-b.ensures,
      c.tri-c.ensures,
      c.tri-d.ensures,
      c.tri-e.ensures,
      c.tri-f.ensures,
    )
    (front-lowered c.args.p.now c.args.x c.args.y 3 0 c.requires.0)
