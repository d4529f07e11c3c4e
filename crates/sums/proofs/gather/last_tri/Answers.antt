-- `sums::gather::last_tri` meets its contract: each turn adds one weighed value. Assumes nothing.
use mathlib.Core.Path.{refl}
use Prim.Native.Nat.{◌^◌}
use native.Mathlib.Nat.{mul-le-mul_left}
use native.Mathlib.Omega.{arith}
use Rattle.sums.specs.steps.Layout.{held}
use Rattle.sums.specs.steps.Stepped.{entry_most}
use Rattle.sums.proofs.steps.Mixing.{among-most}
use Rattle.sums.proofs.gather.Gathering.{weight-small, last-start, last_done, last-small, last-asks, last_more}
use Rattle.sums.proofs.gather.Counting.{last-counted}
use Rattle.sums.proofs.gather.Triangles.{triangle-corner, last-same}
use Rattle.sums.proofs.gather.last_tri.Goals as goal

pub overflow_mul-closed : goal.overflow_mul-closed
overflow_mul-closed c =
    let small = weight-small _ _ _ _ _ _ _ _ _ _ c.requires.0 in
    omega (arith, mul-le-mul_left c.args.run.weight c.requires.0.able.few)

pub loop-c-init : goal.loop-c-init
loop-c-init c = (let h = c.requires.0.able.here in omega arith, last-start _ _ _ _ _ _ _ _ _ c.requires.0 _)

pub weighed-v-requires : goal.weighed-v-requires
weighed-v-requires c =
    let n = c.requires.0.able.good.few in
    let p = last-small _ _ _ _ _ _ _ _ _ c.requires.0 _ _ _ _ _ c.loop-c.invariant.1 c.loop-c-test.true in
    (omega arith, omega arith)

pub share-requires : goal.share-requires
share-requires c = let n = c.requires.0.able.good.few in (omega arith, omega arith)

pub share-requires-in-loop-c : goal.share-requires-in-loop-c
share-requires-in-loop-c c = let n = c.requires.0.able.good.few in (omega arith, omega arith)

pub mix-value-requires : goal.mix-value-requires
unfolding entry_most
mix-value-requires c =
    let p = c.requires in
    (rw (c.share.ensures, c.share-in-loop-c.ensures) (p.1.both _ c.loop-c-test.true), p.2.most 0, p.2.most 1, p.2.most 2)

pub placed-requires : goal.placed-requires
placed-requires c =
    let n = c.requires.0.able.good.few in
    let p = last-asks _ _ _ _ _ _ _ _ _ c.requires.0 _ _ _ _ _ c.loop-c.invariant.1 c.loop-c-test.true _ _ refl refl in
    let long = c.loop-c.invariant.1.sofar.toward.long in
    let q = c.well_formed in
    (omega arith, omega arith)

pub settle-requires : goal.settle-requires
unfolding entry_most
settle-requires c =
    let p = c.requires in
    let a = last-asks _ _ _ _ _ _ _ _ _ c.requires.0 _ _ _ _ _ c.loop-c.invariant.1 c.loop-c-test.true _ _ c.placed.ensures
    c.weighed-v.ensures in (
      a.0,
      rw c.mix-value.ensures (among-most _ _ _ _ _ (2 ^ 42) (rw (
        c.share.ensures,
        c.share-in-loop-c.ensures,
      ) (p.1.both _ c.loop-c-test.true)) (p.2.most 0) (p.2.most 1) (p.2.most 2)),
      a.1,
    )

pub loop-c-preserved : goal.loop-c-preserved
loop-c-preserved c = (
  omega arith,
  last_more _ _ _ _ _ _ _ _ _ c.requires.0 _ _ _ _ _ c.loop-c.invariant.1 c.loop-c-test.true _ _ c.placed.ensures
      c.weighed-v.ensures
      (held _) (last-same _ _ _ _ _ _ _ _ _ c.share.ensures c.share-in-loop-c.ensures
      (rw (c.share.ensures, c.share-in-loop-c.ensures)
      (c.requires.1.both _ c.loop-c-test.true)) c.mix-value.ensures) _ (triangle-corner _) _ c.settle.ensures,
)

pub overflow_sub-result : goal.overflow_sub-result
overflow_sub-result c = let h = c.requires.0.able.here in omega arith

pub shape_of-sums : goal.shape_of-sums
shape_of-sums c = c.loop-c.invariant.1.sofar.toward.long

pub returns : goal.returns
returns c =
    let r = c.requires.0 in (
      last-counted _ _ _ _ _ _ r.able.good.few (let h = r.able.here in omega arith),
      last_done _ _ _ _ _ _ _ _ _ r _ _ _ _ _
          c.loop-c.invariant.1 c.loop-c-test.false,
    )
