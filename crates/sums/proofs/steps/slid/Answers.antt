-- `sums::steps::slid` meets its contract: each number is made from the last net. Assumes nothing.
use mathlib.Core.Path.{refl, sym, ◌∙◌, subst}
use native.Mathlib.Omega.{arith}
use Rattle.sums.specs.steps.Stepped.{Slid}
use Rattle.sums.proofs.steps.Fronts.{front, by_three, by-five}
use Rattle.sums.proofs.steps.Slides.{front-slid}
use Rattle.sums.proofs.steps.slid.Goals as goal

pub returns-then-count-lt5 : goal.returns-then-count-lt5
unfolding front
returns-then-count-lt5 c =
    let a = c.args in
    let o = c.none-none.ensures in
    subst (Slid a.p.now a.s a.gap a.count)
    (sym (by-five c.net_of.ensures (by_three c.slide-a.ensures c.slide-b.ensures c.slide-c.ensures)
    (c.alone.ensures ∙ by_three c.slide-a-2.ensures refl refl) o o o))
    (front-slid a.p.now a.s a.gap a.count 4 11 c.requires.0 (omega arith))

pub returns : goal.returns
unfolding front
returns c =
    let a = c.args in
    let o = c.none-none.ensures in
    subst (Slid a.p.now a.s a.gap a.count)
    (sym (by-five c.net_of-2.ensures (by_three c.slide-a.ensures c.slide-b.ensures c.slide-c.ensures)
    (by_three c.slide-a-2.ensures c.slide-b-2.ensures c.slide-c-2.ensures) o o o))
    (front-slid a.p.now a.s a.gap a.count 6 9 c.requires.0 c.requires.2)
