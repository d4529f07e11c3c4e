-- `sums::gather::pair_row` meets its contract: each turn adds what its term takes on. Assumes nothing.
use mathlib.Core.Path.{refl}
use native.Mathlib.Nat.{mul-le-mul_left}
use native.Mathlib.Omega.{arith}
use Rattle.whole.specs.Choose.{choose}
use Rattle.net.specs.runs.Tree.{size}
use Rattle.sums.specs.steps.Layout.{boxed}
use Rattle.sums.specs.steps.Stepped.{entry_most}
use Rattle.sums.proofs.steps.Rising.{small-up, small_low}
use Rattle.sums.proofs.gather.Gathering.{weight-small, start, open-here, all_done, next_small, place, next-ready, one_more}
use Rattle.sums.proofs.gather.Counting.{none_yet, one-counted, all-counted, counting-small, counted-small}
use Rattle.sums.proofs.gather.Boxes.{inside-here, gap-two, size-two, box-same}
use Rattle.sums.proofs.gather.pair_row.Goals as goal

pub arrangements-requires : goal.arrangements-requires
arrangements-requires c = let r = c.requires.0 in (r.able.few, open-here _ _ _ _ _ _ _ _ _ _ r _ c.of_group-here.ensures)

pub overflow_mul-closed : goal.overflow_mul-closed
overflow_mul-closed c =
    let small = weight-small _ _ _ _ _ _ _ _ _ _ c.requires.0 in
    omega (arith, mul-le-mul_left c.args.run.weight c.arrangements.ensures.1)

pub loop-c-init : goal.loop-c-init
loop-c-init c =
    let r = c.requires.0 in
    (let h = r.able.here in omega arith, none_yet _ _ _ _ _ _, start _ _ _ _ _ _ _ _ _ _ r _ _ _ c.of_group-here.ensures c.arrangements.ensures.0)

pub share-requires : goal.share-requires
share-requires c = let n = c.requires.0.able.good.few in (omega arith, c.group-g.ensures.1)

pub four_two-q-requires : goal.four_two-q-requires
four_two-q-requires c =
    let p = c.requires in (
      inside-here _ _ _ _ _ _ _ p.1 c.loop-c-test.true c.group-g.ensures.0 c.share.ensures,
      small_low _ 2
          (omega arith) (omega arith) p.2,
    )

pub placed-place-requires : goal.placed-place-requires
placed-place-requires c =
    let n = c.requires.0.able.good.few in
    let p = place _ _ _ _ _ _ _ _ _ _ c.requires.0 _ 1 refl _ _ _ _ _ c.loop-c.invariant.2 c.loop-c-test.true in
    let long = c.loop-c.invariant.2.toward.long in
    (omega arith, omega arith)

pub weighed-v-requires : goal.weighed-v-requires
weighed-v-requires c =
    let n = c.requires.0.able.good.few in
    let p = next_small _ _ _ _ _ _ _ _ _ _ c.requires.0 _ 1 refl _ _ _ _ _ c.loop-c.invariant.2 c.loop-c-test.true in
    (omega arith, omega arith)

pub last_row-m-requires : goal.last_row-m-requires
last_row-m-requires c = (
  next-ready _ _ _ _ _ _ _ _ _ _ c.requires.0 _ 1 refl _ _ _ _ _ c.loop-c.invariant.2 c.loop-c-test.true _ _
      c.placed-place.ensures c.weighed-v.ensures _ refl _ _ c.chosen-onward.ensures
      c.chosen-opened.ensures,
  c.requires.1,
  small-up _ 1 (omega arith) (c.four_two-q.ensures.most (entry_most 2) c.requires.2),
)

pub overflow_add-n : goal.overflow_add-n
overflow_add-n c = omega (arith, counted-small _ _ _ _ 1 _ _ (omega arith) c.last_row-m.ensures.0)

pub overflow_add-n-in-loop-c : goal.overflow_add-n-in-loop-c
overflow_add-n-in-loop-c c =
    let few = c.requires.0.able.good.few in
    omega (
      arith,
      counted-small _ _ _ _ 1 _ _ (omega arith) c.last_row-m.ensures.0,
      counting-small _ _ _ _ 1 _ _ _ (omega arith)
          (omega arith) c.loop-c.invariant.1,
    )

pub loop-c-preserved : goal.loop-c-preserved
unfolding size choose
loop-c-preserved c = (
  omega arith,
  one-counted _ _ _ _ 1 _ _ _ _ _ 2 _ refl c.chosen-onward.ensures c.loop-c-test.true refl (omega arith)
      c.loop-c.invariant.1 c.last_row-m.ensures.0,
  one_more _ _ _ _ _ _ _ _ _ _ c.requires.0 _ 1 refl _ _ _ _ _ c.loop-c.invariant.2 c.loop-c-test.true _ _
      c.placed-place.ensures c.weighed-v.ensures _ refl _ _ c.chosen-onward.ensures
      c.chosen-opened.ensures (boxed _ _)
      (box-same _ _ _ 1 _ _ _ _ _ _ 2 c.group-g.ensures.0
      c.share.ensures (gap-two _) (size-two _)
      c.four_two-q.ensures)
      _ c.of_group-here.ensures _ c.last_row-m.ensures.1,
)

pub shape_of-sums : goal.shape_of-sums
shape_of-sums c = c.loop-c.invariant.2.toward.long

pub returns : goal.returns
returns c =
    let r = c.requires.0 in (
      all-counted _ _ _ _ 1 _ _ _ r.able.good.few (omega arith) c.loop-c.invariant.1,
      all_done _ _ _ _ _ _ _ _ _ _ r _ 1 refl _ _ _ _ _
          c.loop-c.invariant.2 c.loop-c-test.false,
    )
