-- `sums::gather::gather_tri` meets its contract, by the arguments that are left: each turn of the loop adds what its term takes on.
-- Assumes nothing.
use mathlib.Core.Path.{◌≡◌, refl, sym, ◌∙◌, subst}
use mathlib.Core.Bool.{false}
use mathlib.Core.List.{List}
use Prim.Native.Nat.{ℕ, suc, ◌+◌, ◌*◌, ◌-◌, ◌≤◌, ◌<◌}
use native.Mathlib.Nat.{mul-le-mul_left}
use native.Mathlib.Omega.{arith}
use lib.IntN.{ℤ}
use lib.Dec.{eqb}
use borrow.Author.Tests.{ne_eqb}
use Rattle.sums.specs.steps.Layout.{held}
use Rattle.sums.specs.steps.Stepped.{Lowered, Small, entry_most}
use Rattle.sums.proofs.steps.Rising.{small-up, small_low}
use Rattle.sums.specs.gather.Formed.{Counted}
use Rattle.sums.proofs.gather.Gathering.{weight-small, start, open-here, all_done, next_small, place, next-ready, one_more, Loop}
use Rattle.sums.proofs.gather.Counting.{none_yet, one-counted, all-counted, counting-small, counted-small}
use Rattle.sums.proofs.gather.Triangles.{all_of, triangle-same}
use Rattle.sums.proofs.gather.+gather_tri.Goals as goal
use Rattle.sums.proofs.gather.+gather_tri.Goals.{then-left-eq3, else-left-eq3+then-left-eq2, else-left-eq3+else-left-eq2}

one_fewer : (n : ℕ) → 1 < n → n ≡ suc (n - 1)
one_fewer n some = omega arith

-- the same with the arguments left otherwise written
re-small : {p : List ℤ} {m n : ℕ} → m ≡ n → Small p (entry_most m) → Small p (entry_most n)
re-small {p} e = subst (λ n. Small p (entry_most n)) e

re-counted : {t : List ℕ} {count K second from r m n : ℕ} → m ≡ n → Counted t count K second m from r → Counted t count K second n from r
re-counted {t} {count} {K} {second} {from} {r} e = subst (λ n. Counted t count K second n from r) e

re-lowered : {p q : List ℤ} {x y m n : ℕ} → m ≡ n → Lowered p x y m q → Lowered p x y n q
re-lowered {p} {q} {x} {y} e = subst (λ n. Lowered p x y n q) e

-- no run begins anew
none-anew : (n : ℕ) → 1 < n → false ≡ eqb (n - 1) 0
none-anew n some = sym (ne_eqb (n - 1) 0 (omega arith))

-- four arguments are left, where neither three nor two are
four : (n : ℕ) → 1 < n → n ≤ 4 → (n ≡ 3 → ⊥) → (n ≡ 2 → ⊥) → n ≡ 4
four n some few no3 no2 = omega arith

pub arrangements-requires : goal.arrangements-requires
arrangements-requires t c = let r = c.requires.1 in (
  r.able.few,
  open-here _ _ _ _ _ _ _ _ _ _ r _
      (all_of c.args.t.now c.args.count _ (let p = c.requires.0 in omega arith)),
)

pub overflow_mul-closed : goal.overflow_mul-closed
overflow_mul-closed t c =
    let small = weight-small _ _ _ _ _ _ _ _ _ _ c.requires.1 in
    omega (arith, mul-le-mul_left c.args.run.weight c.arrangements.ensures.1)

pub overflow_sub-left : goal.overflow_sub-left
overflow_sub-left t c = let p = c.requires.0 in omega arith

pub triangle-formed-requires : goal.triangle-formed-requires
triangle-formed-requires t c = let p = c.requires.1.total in omega arith

pub loop-c-init : goal.loop-c-init
loop-c-init t c =
    let r = c.requires.1 in (
      let h = r.able.here in omega arith,
      none_yet _ _ _ _ _ _,
      start _ _ _ _ _ _ _ _ _ _ r _ _ _
          (all_of c.args.t.now c.args.count _ (let p = c.requires.0 in omega arith)) c.arrangements.ensures.0,
    )

pub share-x-requires : goal.share-x-requires
share-x-requires t c = let n = c.requires.1.able.good.few in (omega arith, omega arith)

pub share-y-requires : goal.share-y-requires
share-y-requires t c = let n = c.requires.1.able.good.few in (omega arith, omega arith)

pub placed-place-requires : goal.placed-place-requires
placed-place-requires t c =
    let n = c.requires.1.able.good.few in
    let p = place _ _ _ _ _ _ _ _ _ _ c.requires.1 _ _ ((let h : c.args.left ≡ suc (c.args.left - 1) = one_fewer _ c.requires.0 in h)) _ _ _ _ _ c.loop-c.invariant.2 c.loop-c-test.true in
    let long = c.loop-c.invariant.2.toward.long in
    (omega arith, omega arith)

pub weighed-v-requires : goal.weighed-v-requires
weighed-v-requires t c =
    let n = c.requires.1.able.good.few in
    let p = next_small _ _ _ _ _ _ _ _ _ _ c.requires.1 _ _ ((let h : c.args.left ≡ suc (c.args.left - 1) = one_fewer _ c.requires.0 in h)) _ _ _ _ _ c.loop-c.invariant.2 c.loop-c-test.true in
    (omega arith, omega arith)

pub tri_six-q-requires : goal.tri_six-q-requires
tri_six-q-requires t c = (
  rw (c.share-x.ensures, c.share-y.ensures) (c.requires.2.both _ c.loop-c-test.true),
  small_low _ _ (let p = c.requires.0 in omega arith) c.requires.1.total c.requires.3,
)

pub pair_tri-m-requires : goal.pair_tri-m-requires
pair_tri-m-requires t c =
    let q = c.tri_six-q.ensures in
    let e = c.if-left-eq3.true in (
      next-ready _ _ _ _ _ _ _ _ _ _ c.requires.1 _ 2 e _ _ _ _ _ c.loop-c.invariant.2 c.loop-c-test.true _ _
          c.placed-place.ensures c.weighed-v.ensures false refl _ _ refl refl,
      c.requires.2,
      small-up _ 2 (omega arith) (q.most (entry_most 3) (re-small e c.requires.3)),
    )

pub tri_three-q-requires : goal.tri_three-q-requires
tri_three-q-requires t c = (
  rw (c.share-x.ensures, c.share-y.ensures) (c.requires.2.both _ c.loop-c-test.true),
  small_low _ _ (let p = c.requires.0 in omega arith) c.requires.1.total c.requires.3,
)

pub last_tri-requires : goal.last_tri-requires
last_tri-requires t c =
    let q = c.tri_three-q.ensures in
    let e = c.if-left-eq2.true in (
      next-ready _ _ _ _ _ _ _ _ _ _ c.requires.1 _ 1 e _ _ _ _ _ c.loop-c.invariant.2 c.loop-c-test.true _ _
          c.placed-place.ensures c.weighed-v.ensures false refl _ _ refl refl,
      c.requires.2,
      small-up _ 1 (omega arith) (q.most (entry_most 2) (re-small e c.requires.3)),
    )

pub lowered-q-requires : goal.lowered-q-requires
lowered-q-requires t c = (
  rw (c.share-x.ensures, c.share-y.ensures) (c.requires.2.both _ c.loop-c-test.true),
  small_low _ _ (let p = c.requires.0 in omega arith) c.requires.1.total c.requires.3,
)

pub gather_tri-requires : goal.gather_tri-requires
gather_tri-requires t c =
    let q = c.lowered-q.ensures in
    let e = four _ c.requires.0 c.requires.1.total c.if-left-eq3.false
    c.if-left-eq2.false in (
      omega arith,
      (
        omega arith,
        next-ready _ _ _ _ _ _ _ _ _ _ c.requires.1 _ _ ((let h : c.args.left ≡ suc (c.args.left - 1) = one_fewer _ c.requires.0 in h)) _ _ _ _ _ c.loop-c.invariant.2 c.loop-c-test.true _ _
            c.placed-place.ensures c.weighed-v.ensures false (none-anew _ c.requires.0) _ _ refl refl,
        c.requires.2,
        small-up _ _ (omega arith) (q.most _ (re-small ((let h : c.args.left ≡ suc (c.args.left - 1) = one_fewer _ c.requires.0 in h)) c.requires.3)),
      ),
    )

-- what a turn leaves, by whichever way: the entries that it formed, and the sum so far
met : (t : ℕ) (c : goal.After-row_known-1 t) → (
    let m = c.if-left-eq3.m in
    let sums = c.if-left-eq3.sums in
    let a = c.args in
    let closed = a.run.weight * c.arrangements.result in
    Counted a.t.now a.count 2 0 (a.left - 1) c.loop-c.c m
    × Loop a.t.now a.count 0 0 a.left a.run.from a.run.begun a.run.s a.run.weight a.sums.now c.requires.1 (held a.net.now) closed
    (c.loop-c.c + 1) a.left closed sums)
met t c =
    elim c.if-left-eq3.branch [
      | then-left-eq3 w ↦
          let e = w.if-left-eq3.true in
          let d : 2 ≡ c.args.left - 1 = omega arith in
          rw (w.m-is, w.sums-is) (
            re-counted d w.pair_tri-m.ensures.0,
            one_more _ _ _ _ _ _ _ _ _ _ c.requires.1 _ 2 e _ _ _ _ _ c.loop-c.invariant.2 c.loop-c-test.true _ _
                c.placed-place.ensures c.weighed-v.ensures false refl _ _ refl refl (held _)
                (triangle-same _ _ 2 _ _ _ _ _ (let m = c.requires.1.total in omega arith) c.share-x.ensures
                c.share-y.ensures w.tri_six-q.ensures)
                _ (all_of c.args.t.now c.args.count _ (let p = c.requires.0 in omega arith)) _ w.pair_tri-m.ensures.1,
          )
      | else-left-eq3+then-left-eq2 w ↦
          let e = w.if-left-eq2.true in
          let d : 1 ≡ c.args.left - 1 = omega arith in
          rw (w.m-is, w.sums-is) (
            re-counted d w.last_tri.ensures.0,
            one_more _ _ _ _ _ _ _ _ _ _ c.requires.1 _ 1 e _ _ _ _ _ c.loop-c.invariant.2 c.loop-c-test.true _ _
                c.placed-place.ensures c.weighed-v.ensures false refl _ _ refl refl (held _)
                (triangle-same _ _ 1 _ _ _ _ _ (let m = c.requires.1.total in omega arith) c.share-x.ensures
                c.share-y.ensures w.tri_three-q.ensures)
                _ (all_of c.args.t.now c.args.count _ (let p = c.requires.0 in omega arith)) _ w.last_tri.ensures.1,
          )
      | else-left-eq3+else-left-eq2 w ↦
          let e = four _ c.requires.0 c.requires.1.total w.if-left-eq3.false w.if-left-eq2.false in
          rw (w.m-is, w.sums-is) (
            w.gather_tri.ensures.0,
            one_more _ _ _ _ _ _ _ _ _ _ c.requires.1 _ _ ((let h : c.args.left ≡ suc (c.args.left - 1) = one_fewer _ c.requires.0 in h)) _ _ _ _ _ c.loop-c.invariant.2 c.loop-c-test.true _ _
                c.placed-place.ensures c.weighed-v.ensures false (none-anew _ c.requires.0) _ _ refl refl (held _)
                (triangle-same _ _ _ _ _ _ _ _ (let m = c.requires.1.total in omega arith) c.share-x.ensures
                c.share-y.ensures (re-lowered (sym e ∙ (let h : c.args.left ≡ suc (c.args.left - 1) = one_fewer _ c.requires.0 in h)) w.lowered-q.ensures))
                _ (all_of c.args.t.now c.args.count _ (let p = c.requires.0 in omega arith)) _ w.gather_tri.ensures.1,
          )
    ]

pub overflow_add-n : goal.overflow_add-n
overflow_add-n t c = let few = c.requires.1.total in omega (
  arith,
  counted-small _ _ _ _ _ _ _ (omega arith) (met t c).0,
  c.triangle-formed.ensures.1,
)

pub overflow_add-n-in-loop-c : goal.overflow_add-n-in-loop-c
overflow_add-n-in-loop-c t c =
    let few = c.requires.1.able.good.few in
    let total = c.requires.1.total in
    omega (
      arith,
      counted-small _ _ _ _ _ _ _ (omega arith) (met t c).0,
      counting-small _ _ _ _ _ _ _ _ (omega arith)
          (omega arith) c.loop-c.invariant.1,
      c.triangle-formed.ensures.1,
    )

pub loop-c-preserved : goal.loop-c-preserved
loop-c-preserved t c =
    let q = (met t c) in (
      omega arith,
      one-counted _ _ _ _ _ _ _ _ _ _ _ false (none-anew _ c.requires.0) refl c.loop-c-test.true
          c.triangle-formed.ensures.0 (let m = c.triangle-formed.ensures.1 in omega arith) c.loop-c.invariant.1 q.0,
      q.1,
    )

pub shape_of-sums : goal.shape_of-sums
shape_of-sums t c = c.loop-c.invariant.2.toward.long

pub returns : goal.returns
returns t c =
    let r = c.requires.1 in
    let e = one_fewer _ c.requires.0 in (
      rw e (all-counted _ _ _ _ _ _ _ _ r.able.good.few (omega arith) c.loop-c.invariant.1),
      all_done _ _ _ _ _ _ _ _ _ _ r _ _ e _ _ _ _ _ c.loop-c.invariant.2 c.loop-c-test.false,
    )
