-- `sums::steps::four_two` meets its contract. Assumes nothing.
use native.Mathlib.Omega.{arith}
use Rattle.sums.proofs.steps.Fronts.{front}
use Rattle.sums.proofs.steps.Slides.{front-slid}
use Rattle.sums.specs.steps.Few.{in_four}
use Rattle.sums.proofs.steps.four_two.Goals as goal

pub toward-a-requires : goal.toward-a-requires
toward-a-requires c = let p = c.requires in (p.0, p.1.most 0, p.1.most 2)

pub toward-b-requires : goal.toward-b-requires
toward-b-requires c = let p = c.requires in (p.0, p.1.most 1, p.1.most 3)

pub returns-then-wide : goal.returns-then-wide
unfolding front
returns-then-wide c =
    rw (c.toward-a.ensures, c.toward-b.ensures, c.if-wide.true) (front-slid (in_four c.args.p) c.args.s 2 2 2 0 c.requires.0 (omega arith))

pub toward-a-requires-2 : goal.toward-a-requires-2
toward-a-requires-2 c = let p = c.requires in (p.0, p.1.most 0, p.1.most 1)

pub toward-b-requires-2 : goal.toward-b-requires-2
toward-b-requires-2 c = let p = c.requires in (p.0, p.1.most 1, p.1.most 2)

pub returns : goal.returns
unfolding front
returns c =
    rw (c.toward-a-2.ensures, c.toward-b-2.ensures, c.if-wide.false) (front-slid (in_four c.args.p) c.args.s 1 2 2 0 c.requires.0 (omega arith))
