-- `sums::steps::six_three` meets its contract. Assumes nothing.
use Rattle.sums.specs.steps.Layout.{before, diagonal, further}
use Rattle.sums.proofs.steps.Fronts.{front}
use Rattle.sums.proofs.steps.Triangles.{front-lowered}
use Rattle.sums.specs.steps.Few.{in_six}
use Rattle.sums.proofs.steps.six_three.Goals as goal

pub mix-a-requires : goal.mix-a-requires
mix-a-requires c = let p = c.requires in (p.0, p.1.most 0, p.1.most 1, p.1.most 2)

pub mix-b-requires : goal.mix-b-requires
mix-b-requires c = let p = c.requires in (p.0, p.1.most 1, p.1.most 3, p.1.most 4)

pub mix-c-requires : goal.mix-c-requires
mix-c-requires c = let p = c.requires in (p.0, p.1.most 2, p.1.most 4, p.1.most 5)

pub returns : goal.returns
unfolding front before further diagonal
returns c =
    rw (c.mix-a.ensures, c.mix-b.ensures, c.mix-c.ensures)
    (front-lowered (in_six c.args.p) c.args.x c.args.y 2 0 c.requires.0)
