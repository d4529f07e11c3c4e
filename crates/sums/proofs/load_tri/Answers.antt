-- `sums::load_tri` meets its contract: each number is the control value of its place. Assumes nothing.
use mathlib.Core.Path.{◌≡◌, refl, sym, ◌∙◌, subst}
use native.Mathlib.Omega.{arith}
use Rattle.sums.specs.steps.Layout.{before}
use Rattle.sums.specs.Loaded.{LoadedTriangle}
use Rattle.sums.proofs.steps.Fronts.{front, by_three, by-five}
use Rattle.sums.proofs.Loading.{first_three, next-three, third-three, tenth, fourth-three, last-three, triangle-loaded}
use Rattle.sums.proofs.load_tri.Goals as goal

pub returns-then-n-lt3 : goal.returns-then-n-lt3
unfolding front before
returns-then-n-lt3 c =
    let l = c.args.surface.now in
    let d = c.args.n in
    let o = c.none-none.ensures in
    let e : d ≡ 2 = let h = c.requires in omega (arith, c.if-n-lt3.true) in
    subst (LoadedTriangle l d)
    (sym (by-five c.net_of.ensures (c.travels-p.ensures ∙ first_three d l) (c.travels-q.ensures ∙ next-three d l (omega arith)) o o o))
    (triangle-loaded l d 6 9 c.requires.0 c.requires.2 (rw e refl))

pub returns-then-n-lt4 : goal.returns-then-n-lt4
unfolding front before
returns-then-n-lt4 c =
    let l = c.args.surface.now in
    let d = c.args.n in
    let e : d ≡ 3 = let h = c.requires in omega (arith, c.if-n-lt4.true, c.if-n-lt3.false) in
    subst (LoadedTriangle l d)
    (sym (by-five c.net_of-then-n-lt4.ensures
    (c.travels-p.ensures ∙ first_three d l)
    (c.travels-q.ensures ∙ next-three d l (omega arith))
    (c.travels-r.ensures ∙ third-three d l (omega arith))
    (c.alone.ensures ∙ by_three (c.travel-a.ensures ∙ tenth d l (omega arith)) refl refl)
    c.none-none.ensures))
    (triangle-loaded l d 10 5 c.requires.0 c.requires.2 (rw e refl))

pub returns : goal.returns
unfolding front before
returns c =
    let l = c.args.surface.now in
    let d = c.args.n in
    let e : d ≡ 4 = let h = c.requires in omega (arith, c.if-n-lt4.false) in
    subst (LoadedTriangle l d)
    (sym (by-five c.net_of-2.ensures
    (c.travels-p.ensures ∙ first_three d l)
    (c.travels-q.ensures ∙ next-three d l (omega arith))
    (c.travels-r.ensures ∙ third-three d l (omega arith))
    (by_three c.travel-a.ensures c.travel-b.ensures c.travel-c.ensures ∙ fourth-three d l e)
    (c.travels-last.ensures ∙ last-three d l e)))
    (triangle-loaded l d 15 0 c.requires.0 c.requires.2 (rw e refl))
