-- What the tests of a path number see: an f64 that equals a whole number up to 1,024 is at least 0, not above 1,024, and that
-- number without its fraction; and what they let pass can be cut to a whole number. Assumes nothing.
use Rattle.std.proofs.Common.{◌≡◌, ℕ, ◌+◌, ◌-◌, ◌*◌, ◌/◌, ◌^◌, ◌<◌, ◌≤◌, min, true, false, ◌&&◌, ◌||◌, T, eqb, ℤ, pos, sym, refl, ap, ◌∙◌, subst, true≢false, le_trans, mul-le-mul_right, div-lt_iff_lt-mul, zero-mul, mul-one, mul_right_comm, mul-div_cancel, arith, lit≤, eqb→eq, lt→ltb, ltb-false, le-ltb}
use native.Mathlib.Nat.{eq_of_mul-eq-mul_right}
use lib.Ieee.{Float, nan, inf, fin, binary64, up, down, lt, le, eq, to_unsigned, of_int}
use lib.Ieee.Bits.{is_true}
use lib.Ieee.Fits.{down_pos, and_l, and_r, eq→eqb, and_i}
use lib.Ieee.Exact.{HasValue}
use lib.Ieee.Order.{le_of_values}
use Rattle.floats.proofs.Sums.{int-val}

-- 0.0 and 1024.0
abbrev pub nought : Float
nought = fin false 0 (pos 0)

abbrev pub most : Float
most = fin false 1 (pos 10)

-- x passes the two tests, and without its fraction it is k
pub record Near (x : Float) (k : ℕ) : Type 0 where
  pub above : le nought x ≡ true
  pub below : lt most x ≡ false
  pub cut : to_unsigned 64 x ≡ k

near-pos : (m : ℕ) (e : ℤ) (k : ℕ) → k ≤ 1024 → m * up e ≡ k * down e → Near (fin false m e) k
unfolding lt to_unsigned
near-pos m e k h q = record {
  above = is_true _ (le_of_values nought (fin false m e) 0 1 k 1 (omega arith) (omega arith) (refl, refl) (refl, mul-one (m * up e) ∙ q) (omega arith));
  below = le-ltb (1 * up (pos 10) * down e) (m * up e * down (pos 0)) within;
  cut = ap (λ (n : ℕ). min (n / down e) (2 ^ 64 - 1)) q ∙ ap (λ (n : ℕ). min n (2 ^ 64 - 1)) (mul-div_cancel k (down_pos e)) ∙ uncapped;
}
  where
    within : m * up e * down (pos 0) ≤ 1 * up (pos 10) * down e
    within = let x : k * down e ≤ 1024 * down e = mul-le-mul_right (down e) h in omega arith

    uncapped : min k (2 ^ 64 - 1) ≡ k
    uncapped = omega arith

-- minus zero
near-neg : (m : ℕ) (e : ℤ) → m * up e ≡ 0 → Near (fin true m e) 0
unfolding lt le eq to_unsigned
near-neg m e q = record {
  above = is_true (eqb a b && (false || eqb a 0)) (and_i (eqb a b) (eqb a 0) (eq→eqb same) (eq→eqb none));
  below = refl;
  cut = refl;
}
  where
    a : ℕ
    a = 0 * up (pos 0) * down e

    b : ℕ
    b = m * up e * down (pos 0)

    same : a ≡ b
    same = omega arith

    none : a ≡ 0
    none = omega arith

zero_of : (k d : ℕ) → 0 < d → k * d ≡ 0 → k ≡ 0
zero_of k d h e = eq_of_mul-eq-mul_right d h k 0 (e ∙ sym (zero-mul d))

-- the size of x is k, where that of y is k and the two are equal
size_of : (m : ℕ) (e : ℤ) (n : ℕ) (d : ℤ) (k : ℕ) → n * up d * 1 ≡ k * down d → n * up d * down e ≡ m * up e * down d → m * up e ≡ k * down e
size_of m e n d k v t =
    eq_of_mul-eq-mul_right (down d) (down_pos d) (m * up e) (k * down e)
    (sym t ∙ ap (λ (z : ℕ). z * down e) (sym (mul-one (n * up d)) ∙ v) ∙ mul_right_comm k (down d) (down e))

of_eq : (y x : Float) (k : ℕ) → k ≤ 1024 → HasValue y false k 1 → T (eq y x) → Near x k
unfolding eq
of_eq nan x k h v t = absurd v
of_eq (inf s) x k h v t = absurd v
of_eq (fin true n d) x k h v t = absurd (true≢false v.0)
of_eq (fin false n d) nan k h v t = absurd t
of_eq (fin false n d) (inf s) k h v t = absurd t
of_eq (fin false n d) (fin false m e) k h v t =
    let a = n * up d * down e in
    let b = m * up e * down d in
    near-pos m e k h (size_of m e n d k v.1 (eqb→eq a b (and_l (eqb a b) true t)))
of_eq (fin false n d) (fin true m e) k h v t =
    let a = n * up d * down e in
    let b = m * up e * down d in
    let same : a ≡ b = eqb→eq a b (and_l (eqb a b) (false || eqb a 0) t) in
    let none : a ≡ 0 = eqb→eq a 0 (and_r (eqb a b) (false || eqb a 0) t) in
    let q : m * up e ≡ 0 = zero_of (m * up e) (down d) (down_pos d) (sym same ∙ none) in
    let z : k ≡ 0 = zero_of k (down e) (down_pos e) (sym (size_of m e n d k v.1 same) ∙ q) in
    rw z (near-neg m e q)

pub near : (x : Float) (k : ℕ) → k ≤ 1024 → T (eq (of_int binary64 (pos k)) x) → Near x k
near x k h t = of_eq (of_int binary64 (pos k)) x k h (int-val binary64 (pos k) (le_trans h (lit≤ tt))) t

-- ---- what passes the two tests can be cut, and is then at most 1,024
pub record Inside (x : Float) : Type 0 where
  pub over : T (lt (fin true 1 (pos 0)) x)
  pub under : T (lt x (fin false 1 (pos 64)))
  pub few : to_unsigned 64 x ≤ 1024

pub inside : (x : Float) → le nought x ≡ true → lt most x ≡ false → Inside x
unfolding le lt eq to_unsigned
inside nan a b = absurd (true≢false (sym a))
inside (inf true) a b = absurd (true≢false (sym a))
inside (inf false) a b = absurd (true≢false b)
inside (fin false m e) a b =
    let d = down_pos e in
    let l : m * up e * down (pos 10) ≤ 1 * up (pos 10) * down e = ltb-false _ _ b in
    let q : m * up e / down e < 1025 = (div-lt_iff_lt-mul d).1 (omega arith) in
    record {
      over = lt→ltb 0 (1 * up (pos 0) * down e + m * up e * down (pos 0)) (omega arith);
      under = lt→ltb (m * up e * down (pos 64)) (1 * up (pos 64) * down e) (omega arith);
      few = omega arith;
    }
inside (fin true m e) a b =
    let d = down_pos e in
    let q : m * up e ≡ 0 = none (m * up e) (down e) a in
    record {
      over = lt→ltb (m * up e * down (pos 0)) (1 * up (pos 0) * down e) (omega arith);
      under = lt→ltb 0 (m * up e * down (pos 64) + 1 * up (pos 64) * down e) (omega arith);
      few = omega arith;
    }
  where
    none : (n d : ℕ) → (eqb (0 * 2 ^ 0 * d) (n * 1) && (false || eqb (0 * 2 ^ 0 * d) 0)) ≡ true → n ≡ 0
    none n d t =
        let a = 0 * 2 ^ 0 * d in
        let e : a ≡ n * 1 = eqb→eq a (n * 1) (and_l (eqb a (n * 1)) (false || eqb a 0) (subst T (sym t) tt)) in
        omega arith
