-- `sums::numerators` meets its contract: the sum may begin, and what it leaves are 01's numerators (rule Composed net). Assumes nothing.
use mathlib.Core.Path.{sym, ◌∙◌}
use native.Mathlib.Omega.{arith}
use Prim.Native.Nat.{◌<◌}
use Rattle.request.specs.Request.{Request}
use Rattle.request.proofs.Forms.{or-none}
use Rattle.request.proofs.Bounds.{travels}
use Rattle.sums.proofs.Riding.{inside, even, row-asks, row-leaves, triangle-asks, triangle-leaves, first-asks, first-leaves, flat-form, other-form}
use Rattle.sums.proofs.numerators.Goals as goal

pub settle-requires : goal.settle-requires
settle-requires c =
    first-asks ((let h : Request = record { head = c.args.head; surface = c.args.surface.now; path = c.args.path.now } in h)) c.requires.0 _ c.requires.1 c.travel.result.0 (rw c.travel.ensures (travels c.args.surface.now c.requires.0.travels 0))

pub returns-then-r-eq0 : goal.returns-then-r-eq0
returns-then-r-eq0 c =
    first-leaves ((let h : Request = record { head = c.args.head; surface = c.args.surface.now; path = c.args.path.now } in h)) c.requires.0 (sym c.degree-r.ensures ∙ c.if-r-eq0.true) _ c.requires.1 _ c.travel.ensures _ c.settle.ensures

pub rectangle-requires : goal.rectangle-requires
rectangle-requires c =
    let x = c.requires.0 in (
      let o = c.if-r-eq0.false in omega arith,
      row-asks ((let h : Request = record { head = c.args.head; surface = c.args.surface.now; path = c.args.path.now } in h)) x _ c.fill.ensures _ c.degree-r.ensures _ c.requires.1,
      inside ((let h : Request = record { head = c.args.head; surface = c.args.surface.now; path = c.args.path.now } in h)) x _ c.fill.ensures _ c.degree-r.ensures,
      x.travels,
    )

pub returns-then-flat : goal.returns-then-flat
returns-then-flat c =
    row-leaves ((let h : Request = record { head = c.args.head; surface = c.args.surface.now; path = c.args.path.now } in h)) c.requires.0 _ c.fill.ensures _ c.degree-r.ensures _ c.requires.1 (flat-form _ (sym c.flat.ensures ∙ c.if-flat.true)) _ _
    c.rectangle.ensures

pub triangle-requires : goal.triangle-requires
triangle-requires c =
    let x = c.requires.0 in
    let o = or-none _ _ (sym c.flat.ensures ∙ c.if-flat.false) in
    let some : 0 < c.degree-r.result = let o = c.if-r-eq0.false in omega arith in (
      some,
      triangle-asks ((let h : Request = record { head = c.args.head; surface = c.args.surface.now; path = c.args.path.now } in h)) x _ c.fill.ensures _ c.degree-r.ensures _ c.requires.1 some (other-form _ 1 o.0) (other-form _ 2 o.1),
      even ((let h : Request = record { head = c.args.head; surface = c.args.surface.now; path = c.args.path.now } in h)) x _ c.fill.ensures _ c.degree-r.ensures (other-form _ 1 o.0) (other-form _ 2 o.1),
      x.travels,
    )

pub returns : goal.returns
returns c =
    let o = or-none _ _ (sym c.flat.ensures ∙ c.if-flat.false) in
    let some : 0 < c.degree-r.result = let o = c.if-r-eq0.false in omega arith in
    triangle-leaves ((let h : Request = record { head = c.args.head; surface = c.args.surface.now; path = c.args.path.now } in h)) c.requires.0 _ c.fill.ensures _ c.degree-r.ensures _ c.requires.1 some (other-form _ 1 o.0) (other-form _ 2 o.1)
    _ _ c.triangle.ensures
