-- `sums::gather::pair_tri` meets its contract: each turn adds what its term takes on. Assumes nothing.
use mathlib.Core.Path.{refl}
use mathlib.Core.Bool.{false}
use native.Mathlib.Nat.{mul-le-mul_left}
use native.Mathlib.Omega.{arith}
use Rattle.whole.specs.Choose.{choose}
use Rattle.net.specs.runs.Tree.{size}
use Rattle.sums.specs.steps.Layout.{held}
use Rattle.sums.specs.steps.Stepped.{entry_most}
use Rattle.sums.proofs.steps.Rising.{small-up, small_low}
use Rattle.sums.proofs.gather.Gathering.{weight-small, start, open-here, all_done, next_small, place, next-ready, one_more}
use Rattle.sums.proofs.gather.Counting.{none_yet, one-counted, all-counted, counting-small, counted-small}
use Rattle.sums.proofs.gather.Triangles.{all_of, triangle-same}
use Rattle.sums.proofs.gather.pair_tri.Goals as goal

pub arrangements-requires : goal.arrangements-requires
arrangements-requires c = let r = c.requires.0 in (r.able.few, open-here _ _ _ _ _ _ _ _ _ _ r 2 (all_of c.args.t.now c.args.count 2 (omega arith)))

pub overflow_mul-closed : goal.overflow_mul-closed
overflow_mul-closed c =
    let small = weight-small _ _ _ _ _ _ _ _ _ _ c.requires.0 in
    omega (arith, mul-le-mul_left c.args.run.weight c.arrangements.ensures.1)

pub loop-c-init : goal.loop-c-init
loop-c-init c =
    let r = c.requires.0 in (
      let h = r.able.here in omega arith,
      none_yet _ _ _ _ _ _,
      start _ _ _ _ _ _ _ _ _ _ r _ _ _
          (all_of c.args.t.now c.args.count 2 (omega arith)) c.arrangements.ensures.0,
    )

pub share-requires : goal.share-requires
share-requires c = let n = c.requires.0.able.good.few in (omega arith, omega arith)

pub share-requires-in-loop-c : goal.share-requires-in-loop-c
share-requires-in-loop-c c = let n = c.requires.0.able.good.few in (omega arith, omega arith)

pub six_three-q-requires : goal.six_three-q-requires
six_three-q-requires c =
    let p = c.requires in
    (rw (c.share.ensures, c.share-in-loop-c.ensures) (p.1.both _ c.loop-c-test.true), small_low _ 2 (omega arith) (omega arith) p.2)

pub placed-place-requires : goal.placed-place-requires
placed-place-requires c =
    let n = c.requires.0.able.good.few in
    let p = place _ _ _ _ _ _ _ _ _ _ c.requires.0 _ 1 refl _ _ _ _ _ c.loop-c.invariant.2 c.loop-c-test.true in
    let long = c.loop-c.invariant.2.toward.long in
    (omega arith, omega arith)

pub weighed-v-requires : goal.weighed-v-requires
weighed-v-requires c =
    let n = c.requires.0.able.good.few in
    let p = next_small _ _ _ _ _ _ _ _ _ _ c.requires.0 _ 1 refl _ _ _ _ _ c.loop-c.invariant.2 c.loop-c-test.true in
    (omega arith, omega arith)

pub last_tri-m-requires : goal.last_tri-m-requires
last_tri-m-requires c = (
  next-ready _ _ _ _ _ _ _ _ _ _ c.requires.0 _ 1 refl _ _ _ _ _ c.loop-c.invariant.2 c.loop-c-test.true _ _
      c.placed-place.ensures c.weighed-v.ensures false refl _ _ refl refl,
  c.requires.1,
  small-up _ 1 (omega arith) (c.six_three-q.ensures.most (entry_most 2) c.requires.2),
)

pub overflow_add-n : goal.overflow_add-n
overflow_add-n c = omega (arith, counted-small _ _ _ _ 1 _ _ (omega arith) c.last_tri-m.ensures.0)

pub overflow_add-n-in-loop-c : goal.overflow_add-n-in-loop-c
overflow_add-n-in-loop-c c =
    let few = c.requires.0.able.good.few in
    omega (
      arith,
      counted-small _ _ _ _ 1 _ _ (omega arith) c.last_tri-m.ensures.0,
      counting-small _ _ _ _ 1 _ _ _ (omega arith)
          (omega arith) c.loop-c.invariant.1,
    )

pub loop-c-preserved : goal.loop-c-preserved
unfolding size choose
loop-c-preserved c = (
  omega arith,
  one-counted _ _ _ _ 1 _ _ _ _ _ 3 false refl refl c.loop-c-test.true refl (omega arith) c.loop-c.invariant.1 c.last_tri-m.ensures.0,
  one_more _ _ _ _ _ _ _ _ _ _ c.requires.0 _ 1 refl _ _ _ _ _ c.loop-c.invariant.2 c.loop-c-test.true _ _
      c.placed-place.ensures c.weighed-v.ensures false refl _ _ refl refl (held _)
      (triangle-same _ _ 1 _ _ _ _ _ (omega arith) c.share.ensures
      c.share-in-loop-c.ensures c.six_three-q.ensures)
      2 (all_of c.args.t.now c.args.count 2 (omega arith)) _ c.last_tri-m.ensures.1,
)

pub shape_of-sums : goal.shape_of-sums
shape_of-sums c = c.loop-c.invariant.2.toward.long

pub returns : goal.returns
returns c =
    let r = c.requires.0 in (
      all-counted _ _ _ _ 1 _ _ _ r.able.good.few (omega arith) c.loop-c.invariant.1,
      all_done _ _ _ _ _ _ _ _ _ _ r _ 1 refl _ _ _ _ _
          c.loop-c.invariant.2 c.loop-c-test.false,
    )
