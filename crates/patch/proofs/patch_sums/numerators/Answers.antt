-- `patch::patch_sums::numerators` meets its contract: the sum may begin, and what it leaves are the patch's numerators. Assumes nothing.
use mathlib.Core.Path.{◌≡◌, ◌∙◌}
use Prim.Native.Nat.{◌<◌}
use native.Mathlib.Omega.{arith}
use lib.IntN.{pos}
use lib.ListN.{get_or}
use Rattle.request.proofs.Bounds.{travels}
use Rattle.patch_net.specs.Patch.{Patch, patch_of}
use Rattle.patch.proofs.patch_sums.Summing.{first-asks, first-leaves, even, asks, leaves}
use Rattle.patch.proofs.patch_sums.numerators.Goals as goal

pub settle-requires : goal.settle-requires
settle-requires c =
    let p : Patch = patch_of c.args.n c.args.N c.args.surface.now c.args.path.now in
    let u : c.units_of.result.0 ≡ get_or c.args.surface.now 0 (pos 0) = c.units_of.ensures ∙ c.travel_at.ensures in
    first-asks p c.requires.0 c.if-n-eq0.true _ c.requires.1 c.units_of.result.0 u (rw u (travels c.args.surface.now c.requires.0.travels 0))

pub returns-then-n-eq0 : goal.returns-then-n-eq0
returns-then-n-eq0 c =
    let p : Patch = patch_of c.args.n c.args.N c.args.surface.now c.args.path.now in
    let u : c.units_of.result.0 ≡ get_or c.args.surface.now 0 (pos 0) = c.units_of.ensures ∙ c.travel_at.ensures in
    first-leaves p c.requires.0 c.if-n-eq0.true _ c.requires.1 c.units_of.result.0 u _ c.settle.ensures

pub triangle-requires : goal.triangle-requires
triangle-requires c =
    let p : Patch = patch_of c.args.n c.args.N c.args.surface.now c.args.path.now in
    let some : 0 < c.args.n = let o = c.if-n-eq0.false in omega arith in (
      some,
      asks p c.requires.0 _ c.fill.ensures _ c.places.ensures some _ c.requires.1,
      even p c.requires.0 _ c.fill.ensures _ c.places.ensures,
      c.requires.0.travels,
    )

pub returns : goal.returns
returns c =
    let p : Patch = patch_of c.args.n c.args.N c.args.surface.now c.args.path.now in
    let some : 0 < c.args.n = let o = c.if-n-eq0.false in omega arith in
    leaves p c.requires.0 _ c.fill.ensures _ c.places.ensures some _ c.requires.1 _ c.triangle.ensures.1
