-- `patch::write_all` meets its contract: the places passed are written, the others are still as they were. Assumes nothing.
use mathlib.Core.Path.{◌≡◌, sym, subst}
use Prim.Native.Nat.{◌+◌}
use native.Mathlib.Omega.{arith}
use lib.ListN.{length}
use Rattle.patch_net.proofs.Standing.{Stands, stands-first, stands-next}
use Rattle.patch.specs.patch_sums.Contract.{index_of}
use Rattle.patch.proofs.Placing.{wrote_none, exact-long, points-long, wrote-more}
use Rattle.patch.proofs.write_all.Goals as goal

pub loop-R-init : goal.loop-R-init
loop-R-init c = (omega arith, wrote_none _ _ _ _ c.requires.0 _ _ c.requires.1 c.requires.2, λ h. stands-first _)

pub write_place-requires : goal.write_place-requires
write_place-requires c =
    let stands : Stands c.args.L c.loop-R.R (index_of c.loop-R.at) = c.loop-R.invariant.2 c.loop-R-test.true in
    let x : length c.loop-R.exact ≡ length c.args.exact.now = exact-long _ _ _ _ c.requires.0 _ _ c.requires.1 c.requires.2 _ _ _ c.loop-R.invariant.1 c.loop-R.invariant.0 in
    let p : length c.loop-R.points ≡ length c.args.points.now = points-long _ _ _ _ c.requires.0 _ _ c.requires.1 c.requires.2 _ _ _ c.loop-R.invariant.1 c.loop-R.invariant.0 in
    let t = c.loop-R-test.true in (
      c.requires.0.each _ stands.whole,
      let m = c.requires.1 in omega arith,
      let m = c.requires.2 in omega arith,
    )

pub next-at-requires : goal.next-at-requires
next-at-requires c =
    let stands : Stands c.args.L c.loop-R.R (index_of c.loop-R.at) = c.loop-R.invariant.2 c.loop-R-test.true in
    (c.requires.0.each (index_of c.loop-R.at) stands.whole).whole

pub loop-R-preserved : goal.loop-R-preserved
loop-R-preserved c =
    let stands : Stands c.args.L c.loop-R.R (index_of c.loop-R.at) = c.loop-R.invariant.2 c.loop-R-test.true in
    let t = c.loop-R-test.true in (
      omega arith,
      wrote-more _ _ _ _ c.requires.0 _ _ c.requires.1 c.requires.2 _ _ _ c.loop-R.invariant.1 t _ stands _ _ c.write_place.ensures,
      λ h. subst (Stands c.args.L (c.loop-R.R + 1)) (sym c.next-at.ensures) (stands-next c.args.L c.loop-R.R _ stands (rw c.requires.0.all at h)),
    )

pub shape_of-exact : goal.shape_of-exact
shape_of-exact c = exact-long _ _ _ _ c.requires.0 _ _ c.requires.1 c.requires.2 _ _ _ c.loop-R.invariant.1 c.loop-R.invariant.0

pub shape_of-points : goal.shape_of-points
shape_of-points c = points-long _ _ _ _ c.requires.0 _ _ c.requires.1 c.requires.2 _ _ _ c.loop-R.invariant.1 c.loop-R.invariant.0

pub returns : goal.returns
returns c =
    let v = c.loop-R.invariant in
    let e : c.loop-R.R ≡ c.args.count = let t = c.loop-R-test.false in let m = v.0 in omega arith in
    rw e at v.1
