-- What a known form chooses, what DEGREE leaves, and when two tests of order agree. Assumes nothing.
use mathlib.Core.Path.{◌≡◌, refl, sym, ◌∙◌}
use mathlib.Core.Bool.{Bool, true, false, not, cond, ◌||◌, or-false}
use Prim.Native.Nat.{ℕ, ◌+◌, ◌*◌, ◌-◌, ◌≤◌, ◌<◌}
use native.Mathlib.Nat.{mul-le-mul}
use native.Mathlib.Omega.{arith}
use lib.Dec.{ltb, eqb}
use borrow.Author.Tests.{lt-ltb, le-ltb, ltb-true, ltb-false, eq-eqb, ne_eqb, eqb-true, not-false}
use Rattle.request.specs.declared.Head.{Head}
use Rattle.request.specs.Head.{most_degree, most_n, by_form, degree, longest}
use Rattle.request.specs.Refusal.{not_degree}

-- two tests that hold together are one test
same_test : (a b c d : ℕ) → (a < b → c < d) → (c < d → a < b) → ltb a b ≡ ltb c d
same_test a b c d to from = go (ltb a b) (ltb c d) refl refl
  where
    go : (s t : Bool) → ltb a b ≡ s → ltb c d ≡ t → ltb a b ≡ ltb c d
    go true true p q = p ∙ sym q
    go false false p q = p ∙ sym q
    go true false p q = lt-ltb a b (ltb-true a b p) ∙ sym (lt-ltb c d (to (ltb-true a b p)))
    go false true p q = lt-ltb a b (from (ltb-true c d q)) ∙ sym (lt-ltb c d (ltb-true c d q))

module _ {A : Type 0} (h : Head) (x y z : A) where
  pub at-curve : h.form ≡ 1 → by_form h x y z ≡ x
  unfolding by_form
  at-curve e = rw (eq-eqb _ _ e)

  pub at-tensor : h.form ≡ 2 → by_form h x y z ≡ y
  unfolding by_form
  at-tensor e = rw e

  pub at-triangle : (h.form ≡ 1 → ⊥) → (h.form ≡ 2 → ⊥) → by_form h x y z ≡ z
  unfolding by_form
  at-triangle no1 no2 = rw (ne_eqb _ _ no1, ne_eqb _ _ no2)

-- forms 1 and 3 choose alike where the two are the same
pub at-outer : {A : Type 0} (h : Head) (x y : A) → (h.form ≡ 2 → ⊥) → by_form h x y x ≡ x
unfolding by_form
at-outer h x y no2 = go (eqb h.form 1) (rw (ne_eqb _ _ no2) refl)
  where
    go : (b : Bool) → cond (eqb h.form 2) y x ≡ x → cond b x (cond (eqb h.form 2) y x) ≡ x
    go true e = refl
    go false e = e

-- the degree is the first degree, or more
pub first-le : (h : Head) → h.first ≤ degree h
unfolding degree by_form
first-le h = go (eqb h.form 1) (eqb h.form 2)
  where
    go : (a b : Bool) → h.first ≤ cond a h.first (cond b (h.first + h.second) h.first)
    go true b = omega arith
    go false true = omega arith
    go false false = omega arith

-- what is left of DEGREE where the first degree and N are small
pub small-tensor : (h : Head) → h.form ≡ 2 → h.first ≤ most_degree → h.N ≤ most_n → ltb (most_degree - h.first) h.second ≡ not_degree h
unfolding not_degree degree
small-tensor h e f n =
    let r_is = at-tensor h h.first (h.first + h.second) h.first e in
    let no_test = at-tensor h (not (eqb h.second 0)) false (not (eqb h.second 0)) e in
    simp (r_is, no_test, le-ltb most_n h.N n, or-false)
    (same_test (most_degree - h.first) h.second most_degree (h.first + h.second) (λ l. omega arith) (λ l. omega arith))

pub small-outer : (h : Head) → (h.form ≡ 2 → ⊥) → h.first ≤ most_degree → h.N ≤ most_n → not (eqb h.second 0) ≡ not_degree h
unfolding not_degree degree
small-outer h no2 f n =
    rw (at-outer h h.first (h.first + h.second) no2, at-outer h (not (eqb h.second 0)) false no2, le-ltb most_degree h.first f, le-ltb most_n h.N n)

pub or-none : (a b : Bool) → (a || b) ≡ false → (a ≡ false) × (b ≡ false)
or-none true b e = (e, cc)
or-none false b e = (refl, e)

-- what DEGREE leaves: both degrees together are r, at most 4, and N is at most 3
pub record Small (h : Head) : Type 0 where
  pub r_is : degree h ≡ h.first + h.second
  pub r_most : h.first + h.second ≤ most_degree
  pub N_most : h.N ≤ most_n

-- the three parts of DEGREE's test, where it fails
parts : (x n : ℕ) (t : Bool) → (ltb most_degree x || ltb most_n n || t) ≡ false → (x ≤ most_degree) × (n ≤ most_n) × (t ≡ false)
parts x n t e =
    let outer = or-none (ltb most_degree x || ltb most_n n) t e in
    let inner = or-none (ltb most_degree x) (ltb most_n n) outer.0 in
    (ltb-false most_degree x inner.0, ltb-false most_n n inner.1, outer.1)

zero-second : (s : ℕ) → not (eqb s 0) ≡ false → s ≡ 0
zero-second s e = eqb-true s 0 (not-false (eqb s 0) e)

pub small : (h : Head) → not_degree h ≡ false → Small h
unfolding not_degree degree by_form
small h e = go (eqb h.form 1) (eqb h.form 2) refl refl e
  where
    other : Bool
    other = not (eqb h.second 0)

    r : Bool → Bool → ℕ
    r a b = cond a h.first (cond b (h.first + h.second) h.first)

    go : (a b : Bool) → eqb h.form 1 ≡ a → eqb h.form 2 ≡ b
        → (ltb most_degree (r a b) || ltb most_n h.N || cond a other (cond b false other)) ≡ false → Small h
    go true b p q t =
        let w = parts h.first h.N (not (eqb h.second 0)) t in
        let z = zero-second h.second w.2 in
        record { r_is = rw p (omega arith); r_most = omega arith; N_most = w.1 }
    go false true p q t =
        let w = parts (h.first + h.second) h.N false t in
        record { r_is = rw (p, q); r_most = w.0; N_most = w.1 }
    go false false p q t =
        let w = parts h.first h.N (not (eqb h.second 0)) t in
        let z = zero-second h.second w.2 in
        record { r_is = rw (p, q) (omega arith); r_most = omega arith; N_most = w.1 }

pub degree-most : (h : Head) → not_degree h ≡ false → degree h ≤ most_degree
degree-most h e = let s = small h e in omega arith

-- and so is L
pub longest-most : (h : Head) → not_degree h ≡ false → longest h ≤ most_degree * most_n
unfolding longest
longest-most h e = mul-le-mul (degree-most h e) (small h e).N_most
