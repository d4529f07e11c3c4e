-- `sums::gather::gather_row` meets its contract, by the arguments that are left: each turn of the loop adds what its term takes on.
-- Assumes nothing.
use mathlib.Core.Path.{◌≡◌, refl, ◌∙◌, ap, subst}
use mathlib.Core.List.{List}
use Prim.Native.Nat.{ℕ, suc, ◌+◌, ◌*◌, ◌-◌, ◌≤◌, ◌<◌}
use native.Mathlib.Nat.{mul-le-mul_left}
use native.Mathlib.Omega.{arith}
use lib.IntN.{ℤ}
use lib.Dec.{eqb}
use Rattle.sums.specs.steps.Layout.{boxed}
use Rattle.sums.specs.steps.Stepped.{Small, entry_most}
use Rattle.sums.proofs.steps.Rising.{small-up, small_low}
use Rattle.sums.specs.gather.Owed.{group_at, gap_at}
use Rattle.sums.specs.gather.Formed.{Counted}
use Rattle.sums.proofs.gather.Gathering.{weight-small, start, open-here, all_done, next_small, place, next-ready, one_more, Loop}
use Rattle.sums.proofs.gather.Counting.{none_yet, one-counted, all-counted, counting-small, counted-small, row-size}
use Rattle.sums.proofs.gather.Boxes.{inside-here, size-two, size-three, size-most, size-all, box-same}
use Rattle.sums.proofs.gather.+gather_row.Goals as goal
use Rattle.sums.proofs.gather.+gather_row.Goals.{then-left-eq3, else-left-eq3+then-left-eq2, else-left-eq3+else-left-eq2}

one_fewer : (n : ℕ) → 1 < n → n ≡ suc (n - 1)
one_fewer n some = omega arith

-- the same with the arguments left otherwise written
re-small : {p : List ℤ} {m n : ℕ} → m ≡ n → Small p (entry_most m) → Small p (entry_most n)
re-small {p} e = subst (λ n. Small p (entry_most n)) e

re-counted : {t : List ℕ} {count K second from r m n : ℕ} → m ≡ n → Counted t count K second m from r → Counted t count K second n from r
re-counted {t} {count} {K} {second} {from} {r} e = subst (λ n. Counted t count K second n from r) e

re-group : {g : ℕ} (second : ℕ) {m n : ℕ} → m ≡ n → g ≡ group_at 2 second m → g ≡ group_at 2 second n
re-group {g} second e = subst (λ n. g ≡ group_at 2 second n) e

re-gap : {g : ℕ} (second : ℕ) {m n : ℕ} → m ≡ n → g ≡ gap_at second m → g ≡ gap_at second n
re-gap {g} second e = subst (λ n. g ≡ gap_at second n) e

-- four arguments are left, where neither three nor two are
four : (n : ℕ) → 1 < n → n ≤ 4 → (n ≡ 3 → ⊥) → (n ≡ 2 → ⊥) → n ≡ 4
four n some few no3 no2 = omega arith

pub overflow_sub-turn : goal.overflow_sub-turn
overflow_sub-turn t c = let p = c.requires.0 in omega arith

pub gap-apart-requires : goal.gap-apart-requires
gap-apart-requires t c = c.requires.1.total

pub arrangements-requires : goal.arrangements-requires
arrangements-requires t c = let r = c.requires.1 in
    (r.able.few, open-here _ _ _ _ _ _ _ _ _ _ r _ c.of_group-here.ensures)

pub overflow_mul-closed : goal.overflow_mul-closed
overflow_mul-closed t c =
    let small = weight-small _ _ _ _ _ _ _ _ _ _ c.requires.1 in
    omega (arith, mul-le-mul_left c.args.run.weight c.arrangements.ensures.1)

pub loop-c-init : goal.loop-c-init
loop-c-init t c =
    let r = c.requires.1 in (
      let h = r.able.here in omega arith,
      none_yet _ _ _ _ _ _,
      start _ _ _ _ _ _ _ _ _ _ r _ _ _ c.of_group-here.ensures
          c.arrangements.ensures.0,
    )

pub share-u-requires : goal.share-u-requires
share-u-requires t c = let n = c.requires.1.able.good.few in (omega arith, c.group-g.ensures.1)

pub placed-place-requires : goal.placed-place-requires
placed-place-requires t c =
    let n = c.requires.1.able.good.few in
    let p = place _ _ _ _ _ _ _ _ _ _ c.requires.1 _ _ ((let h : c.args.left ≡ suc (c.args.left - 1) = one_fewer _ c.requires.0 in h)) _ _ _ _ _ c.loop-c.invariant.2 c.loop-c-test.true in
    let long = c.loop-c.invariant.2.toward.long in
    (omega arith, omega arith)

pub weighed-v-requires : goal.weighed-v-requires
weighed-v-requires t c =
    let n = c.requires.1.able.good.few in
    let p = next_small _ _ _ _ _ _ _ _ _ _ c.requires.1 _ _ ((let h : c.args.left ≡ suc (c.args.left - 1) = one_fewer _ c.requires.0 in h)) _ _ _ _ _ c.loop-c.invariant.2 c.loop-c-test.true in
    (omega arith, omega arith)

pub row_four-q-requires : goal.row_four-q-requires
row_four-q-requires t c = (
  inside-here _ _ _ _ _ _ _ c.requires.2 c.loop-c-test.true c.group-g.ensures.0
      c.share-u.ensures,
  let p = c.gap-apart.ensures.1 in omega arith,
  small_low _ _
      (let p = c.requires.0 in omega arith) c.requires.1.total c.requires.3,
)

pub pair_row-m-requires : goal.pair_row-m-requires
pair_row-m-requires t c =
    let q = c.row_four-q.ensures in
    let e = c.if-left-eq3.true in (
      next-ready _ _ _ _ _ _ _ _ _ _ c.requires.1 _ 2 e _ _ _ _ _ c.loop-c.invariant.2 c.loop-c-test.true _ _
          c.placed-place.ensures c.weighed-v.ensures _ (ap (λ n. eqb (n - 1) c.args.second) e) _ _
          c.chosen-start.ensures c.chosen-began.ensures,
      c.requires.2,
      small-up _ 2 (omega arith) (q.most (entry_most 3) (re-small e c.requires.3)),
    )

pub row_two-q-requires : goal.row_two-q-requires
row_two-q-requires t c = (
  inside-here _ _ _ _ _ _ _ c.requires.2 c.loop-c-test.true c.group-g.ensures.0
      c.share-u.ensures,
  let p = c.gap-apart.ensures.1 in omega arith,
  small_low _ _
      (let p = c.requires.0 in omega arith) c.requires.1.total c.requires.3,
)

pub last_row-requires : goal.last_row-requires
last_row-requires t c =
    let q = c.row_two-q.ensures in
    let e = c.if-left-eq2.true in (
      next-ready _ _ _ _ _ _ _ _ _ _ c.requires.1 _ 1 e _ _ _ _ _ c.loop-c.invariant.2 c.loop-c-test.true _ _
          c.placed-place.ensures c.weighed-v.ensures _ (ap (λ n. eqb (n - 1) c.args.second) e) _ _
          c.chosen-start.ensures c.chosen-began.ensures,
      c.requires.2,
      small-up _ 1 (omega arith) (q.most (entry_most 2) (re-small e c.requires.3)),
    )

pub overflow_mul-here : goal.overflow_mul-here
overflow_mul-here t c =
    record {
      fits = omega (
        arith,
        size-most _ _ _ _ (four _ c.requires.0 c.requires.1.total c.if-left-eq3.false
            c.if-left-eq2.false) c.of_group-here.ensures c.gap-apart.ensures.0,
      );
    }

pub slid-q-requires : goal.slid-q-requires
slid-q-requires t c = (
  inside-here _ _ _ _ _ _ _ c.requires.2 c.loop-c-test.true c.group-g.ensures.0
      c.share-u.ensures,
  let p = c.gap-apart.ensures.1 in omega arith,
  size-most _ _ _ _
      (four _ c.requires.0 c.requires.1.total c.if-left-eq3.false c.if-left-eq2.false)
      c.of_group-here.ensures c.gap-apart.ensures.0,
  small_low _ _
      (let p = c.requires.0 in omega arith) c.requires.1.total c.requires.3,
)

pub gather_row-requires : goal.gather_row-requires
gather_row-requires t c =
    let q = c.slid-q.ensures in
    let e = four _ c.requires.0 c.requires.1.total c.if-left-eq3.false
    c.if-left-eq2.false in (
      omega arith,
      (
        omega arith,
        next-ready _ _ _ _ _ _ _ _ _ _ c.requires.1 _ _ ((let h : c.args.left ≡ suc (c.args.left - 1) = one_fewer _ c.requires.0 in h)) _ _ _ _ _ c.loop-c.invariant.2 c.loop-c-test.true _ _
            c.placed-place.ensures c.weighed-v.ensures _ refl _ _ c.chosen-start.ensures c.chosen-began.ensures,
        c.requires.2,
        small-up _ _ (omega arith) (q.most _ (re-small ((let h : c.args.left ≡ suc (c.args.left - 1) = one_fewer _ c.requires.0 in h)) c.requires.3)),
      ),
    )

-- what a turn leaves, by whichever way: the entries that it formed, and the sum so far
met : (t : ℕ) (c : goal.After-row_known-1 t) → (
    let m = c.if-left-eq3.m in
    let sums = c.if-left-eq3.sums in
    let a = c.args in
    let closed = a.run.weight * c.arrangements.result in
    Counted a.t.now a.count 1 a.second (a.left - 1) c.chosen-start.result m
    × Loop a.t.now a.count 2 a.second a.left a.run.from a.run.begun a.run.s a.run.weight a.sums.now c.requires.1
    (boxed (a.second + 1) a.net.now) closed (c.loop-c.c + 1) c.of_group-here.result closed sums)
met t c =
    elim c.if-left-eq3.branch [
      | then-left-eq3 w ↦
          let e = w.if-left-eq3.true in
          let d : 2 ≡ c.args.left - 1 = omega arith in
          rw (w.m-is, w.sums-is) (
            re-counted d w.pair_row-m.ensures.0,
            one_more _ _ _ _ _ _ _ _ _ _ c.requires.1 _ 2 e _ _ _ _ _ c.loop-c.invariant.2 c.loop-c-test.true _ _
                c.placed-place.ensures c.weighed-v.ensures _ (ap (λ n. eqb (n - 1) c.args.second) e) _ _
                c.chosen-start.ensures c.chosen-began.ensures (boxed _ _)
                (box-same _ _ _ 2 _ _ _ _ _ _ _ (re-group _ e c.group-g.ensures.0)
                c.share-u.ensures (re-gap _ e c.gap-apart.ensures.0) (size-three _) w.row_four-q.ensures)
                _ c.of_group-here.ensures _ w.pair_row-m.ensures.1,
          )
      | else-left-eq3+then-left-eq2 w ↦
          let e = w.if-left-eq2.true in
          let d : 1 ≡ c.args.left - 1 = omega arith in
          rw (w.m-is, w.sums-is) (
            re-counted d w.last_row.ensures.0,
            one_more _ _ _ _ _ _ _ _ _ _ c.requires.1 _ 1 e _ _ _ _ _ c.loop-c.invariant.2 c.loop-c-test.true _ _
                c.placed-place.ensures c.weighed-v.ensures _ (ap (λ n. eqb (n - 1) c.args.second) e) _ _
                c.chosen-start.ensures c.chosen-began.ensures (boxed _ _)
                (box-same _ _ _ 1 _ _ _ _ _ _ _ (re-group _ e c.group-g.ensures.0)
                c.share-u.ensures (re-gap _ e c.gap-apart.ensures.0) (size-two _) w.row_two-q.ensures)
                _ c.of_group-here.ensures _ w.last_row.ensures.1,
          )
      | else-left-eq3+else-left-eq2 w ↦
          let e = four _ c.requires.0 c.requires.1.total w.if-left-eq3.false w.if-left-eq2.false in
          rw (w.m-is, w.sums-is) (
            w.gather_row.ensures.0,
            one_more _ _ _ _ _ _ _ _ _ _ c.requires.1 _ _ ((let h : c.args.left ≡ suc (c.args.left - 1) = one_fewer _ c.requires.0 in h)) _ _ _ _ _ c.loop-c.invariant.2 c.loop-c-test.true _ _
                c.placed-place.ensures c.weighed-v.ensures _ refl _ _ c.chosen-start.ensures c.chosen-began.ensures
                (boxed _ _)
                (box-same _ _ _ _ _ _ _ _ _ _ _ (re-group _ ((let h : c.args.left ≡ suc (c.args.left - 1) = one_fewer _ c.requires.0 in h)) c.group-g.ensures.0)
                c.share-u.ensures (re-gap _ ((let h : c.args.left ≡ suc (c.args.left - 1) = one_fewer _ c.requires.0 in h)) c.gap-apart.ensures.0)
                (size-all _ _ _ _ _ ((let h : c.args.left ≡ suc (c.args.left - 1) = one_fewer _ c.requires.0 in h)) c.of_group-here.ensures c.gap-apart.ensures.0) w.slid-q.ensures)
                _ c.of_group-here.ensures _ w.gather_row.ensures.1,
          )
    ]

pub overflow_add-n : goal.overflow_add-n
overflow_add-n t c = let few = c.requires.1.total in omega (
  arith,
  counted-small _ _ _ _ _ _ _ (omega arith) (met t c).0,
)

pub overflow_add-n-in-loop-c : goal.overflow_add-n-in-loop-c
overflow_add-n-in-loop-c t c =
    let few = c.requires.1.able.good.few in
    let total = c.requires.1.total in
    omega (
      arith,
      counted-small _ _ _ _ _ _ _ (omega arith) (met t c).0,
      counting-small _ _ _ _ _ _ _ _ (omega arith)
          (omega arith) c.loop-c.invariant.1,
    )

pub loop-c-preserved : goal.loop-c-preserved
loop-c-preserved t c =
    let z : c.args.left ≡ c.args.left - 1 + 1 = let p = c.requires.0 in omega arith in
    let q = (met t c) in (
      omega arith,
      one-counted _ _ _ _ _ _ _ _ _ _ _ _ refl c.chosen-start.ensures c.loop-c-test.true (z ∙ row-size _)
          (let m = c.requires.1.total in omega arith) c.loop-c.invariant.1 q.0,
      q.1,
    )

pub shape_of-sums : goal.shape_of-sums
shape_of-sums t c = c.loop-c.invariant.2.toward.long

pub returns : goal.returns
returns t c =
    let r = c.requires.1 in
    let e = one_fewer _ c.requires.0 in (
      rw e (all-counted _ _ _ _ _ _ _ _ r.able.good.few (omega arith) c.loop-c.invariant.1),
      all_done _ _ _ _ _ _ _ _ _ _ r _ _ e _ _ _ _ _ c.loop-c.invariant.2 c.loop-c-test.false,
    )
