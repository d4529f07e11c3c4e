-- `sums::gather::last_row` meets its contract: each turn adds one weighed value. Assumes nothing.
use mathlib.Core.Path.{refl}
use Prim.Native.Nat.{◌^◌}
use native.Mathlib.Nat.{mul-le-mul_left}
use native.Mathlib.Omega.{arith}
use Rattle.sums.specs.steps.Layout.{boxed}
use Rattle.sums.specs.steps.Stepped.{entry_most}
use Rattle.sums.proofs.steps.Mixing.{between-most}
use Rattle.sums.proofs.gather.Gathering.{weight-small, last-start, last_done, last-small, last-asks, last_more}
use Rattle.sums.proofs.gather.Counting.{last-counted}
use Rattle.sums.proofs.gather.Boxes.{inside-here, box-corner, last-same}
use Rattle.sums.proofs.gather.last_row.Goals as goal

pub overflow_mul-closed : goal.overflow_mul-closed
overflow_mul-closed c =
    let small = weight-small _ _ _ _ _ _ _ _ _ _ c.requires.0 in
    omega (arith, mul-le-mul_left c.args.run.weight c.requires.0.able.few)

pub loop-c-init : goal.loop-c-init
loop-c-init c = (let h = c.requires.0.able.here in omega arith, last-start _ _ _ _ _ _ _ _ _ c.requires.0 _)

pub weighed-heavy-requires : goal.weighed-heavy-requires
weighed-heavy-requires c =
    let n = c.requires.0.able.good.few in
    let p = last-small _ _ _ _ _ _ _ _ _ c.requires.0 _ _ _ _ _ c.loop-c.invariant.1 c.loop-c-test.true in
    (omega arith, omega arith)

pub share-requires : goal.share-requires
share-requires c = let n = c.requires.0.able.good.few in (omega arith, c.group-g.ensures.1)

pub toward-value-requires : goal.toward-value-requires
unfolding entry_most
toward-value-requires c =
    let p = c.requires in
    (inside-here _ _ _ _ _ _ _ p.1 c.loop-c-test.true c.group-g.ensures.0 c.share.ensures, p.2.most 0, p.2.most 1)

pub placed-requires : goal.placed-requires
placed-requires c =
    let n = c.requires.0.able.good.few in
    let p = last-asks _ _ _ _ _ _ _ _ _ c.requires.0 _ _ _ _ _ c.loop-c.invariant.1 c.loop-c-test.true _ _ refl refl in
    let long = c.loop-c.invariant.1.sofar.toward.long in
    (omega arith, omega arith)

pub settle-requires : goal.settle-requires
unfolding entry_most
settle-requires c =
    let p = c.requires in
    let a = last-asks _ _ _ _ _ _ _ _ _ c.requires.0 _ _ _ _ _ c.loop-c.invariant.1 c.loop-c-test.true _ _ c.placed.ensures
    c.weighed-heavy.ensures in (
      a.0,
      rw c.toward-value.ensures (between-most _ _ _ (2 ^ 42) (inside-here _ _ _ _ _ _ _ p.1 c.loop-c-test.true
          c.group-g.ensures.0 c.share.ensures) (p.2.most 0) (p.2.most 1)),
      a.1,
    )

pub loop-c-preserved : goal.loop-c-preserved
loop-c-preserved c = (
  omega arith,
  last_more _ _ _ _ _ _ _ _ _ c.requires.0 _ _ _ _ _ c.loop-c.invariant.1 c.loop-c-test.true _ _ c.placed.ensures
      c.weighed-heavy.ensures
      (boxed _ _) (last-same _ _ _ _ _ _ _ _ _ c.group-g.ensures.0 c.share.ensures
      (inside-here _ _ _ _ _ _ _ c.requires.1 c.loop-c-test.true c.group-g.ensures.0
      c.share.ensures) c.toward-value.ensures) _ (box-corner _ _) _ c.settle.ensures,
)

pub overflow_sub-result : goal.overflow_sub-result
overflow_sub-result c = let h = c.requires.0.able.here in omega arith

pub shape_of-sums : goal.shape_of-sums
shape_of-sums c = c.loop-c.invariant.1.sofar.toward.long

pub returns : goal.returns
returns c =
    let r = c.requires.0 in (
      last-counted _ _ _ _ _ _ r.able.good.few (let h = r.able.here in omega arith),
      last_done _ _ _ _ _ _ _ _ _ r _ _ _ _ _
          c.loop-c.invariant.1 c.loop-c-test.false,
    )
