-- `sums::steps::lowered` meets its contract: each number is made from the last net. Assumes nothing.
use mathlib.Core.Path.{refl, sym, ◌∙◌, subst}
use native.Mathlib.Omega.{arith}
use Rattle.sums.specs.steps.Layout.{before, diagonal, further}
use Rattle.sums.specs.steps.Stepped.{Lowered}
use Rattle.sums.proofs.steps.Fronts.{front, by_three, by-five}
use Rattle.sums.proofs.steps.Triangles.{front-lowered}
use Rattle.sums.proofs.steps.lowered.Goals as goal

pub returns : goal.returns
unfolding front before further diagonal
returns c =
    let a = c.args in
    let t = c.tri_three-a.ensures in
    subst (Lowered a.p.now a.x a.y 4)
    (sym (by-five c.net_of.ensures
    (by_three (t.each 0 (omega arith)) (t.each 1 (omega arith)) (t.each 2 (omega arith)))
    (by_three c.tri-d.ensures c.tri-e.ensures c.tri-f.ensures)
    (by_three c.tri-g.ensures c.tri-h.ensures c.tri-i.ensures)
    (c.alone.ensures ∙ by_three c.tri-j.ensures refl refl)
    c.none.ensures))
    (front-lowered a.p.now a.x a.y 4 5 c.requires.0)
