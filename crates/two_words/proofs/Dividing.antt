-- Rounding by one division: the powers of 1024 are shifted away first. Assumes nothing.
use Rattle.std.proofs.Common.{◌≡◌, ℕ, zero, suc, ◌+◌, ◌*◌, ◌/◌, ◌^◌, ◌<◌, ◌≤◌, true, false, not, ℤ, pos, negsuc, neg_ℤ, nat_abs, sym, refl, ap, ◌∙◌, true≢false, mul-le-mul_right, mul_assoc, mul_comm, div-lt_iff_lt-mul, mul-add, arith}
use native.Mathlib.Nat.{mul-div-mul_left, add-mul-div_right}
use native.Mathlib.Nat.{div-div-eq-div-mul, pow-le-pow_right}
use lib.Signed.{mag, non_neg}
use Rattle.whole.specs.Round.{half_up, on_side_of, nearest}
use Rattle.two_words.specs.Words.{two_words, Roundable}
use Rattle.two_words.proofs.Only.{below-zero}

plain : (x D : ℕ) → 0 < D → (2 * x + D) / (2 * D) ≡ half_up x D
unfolding half_up
plain x zero h = absurd (omega arith)
plain x (suc D) h = refl

-- ---- the law: floor((2x + dP) / 2dP) by the floor of 2x/P
pub shifted : (x d P : ℕ) → 0 < d → 0 < P → (2 * x / P + d) / (2 * d) ≡ half_up x (d * P)
shifted x d P h k =
    ap (λ (y : ℕ). y / (2 * d)) (sym (add-mul-div_right (2 * x) d k)) ∙ div-div-eq-div-mul (2 * x + d * P) P (2 * d)
    ∙ ap (λ (y : ℕ). (2 * x + d * P) / y) turn ∙ plain x (d * P) (mul-positive d P h k)
  where
    turn : P * (2 * d) ≡ 2 * (d * P)
    turn = mul_comm P (2 * d) ∙ mul_assoc 2 d P

    mul-positive : (d P : ℕ) → 0 < d → 0 < P → 0 < d * P
    mul-positive d P h k = omega (arith, mul-le-mul_right P h)

-- ---- the side of zero and the size, by the high word
pub side-above : (high : ℤ) (low y : ℕ) → not (non_neg high) ≡ false → on_side_of (two_words high low) y ≡ pos y
unfolding two_words on_side_of
side-above (pos h) low y e = refl
side-above (negsuc h) low y e = absurd (true≢false e)

pub side-below : (high : ℤ) (low y : ℕ) → low < 2 ^ 64 → not (non_neg high) ≡ true → on_side_of (two_words high low) y ≡ neg_ℤ (pos y)
unfolding on_side_of
side-below (pos h) low y l e = absurd (true≢false (sym e))
side-below (negsuc h) low y l e = ap (λ n. on_side_of n y) (below-zero h low l)

pub on-above : (n : ℤ) (y : ℕ) → not (non_neg n) ≡ false → on_side_of n y ≡ pos y
unfolding on_side_of
on-above (pos a) y e = refl
on-above (negsuc a) y e = absurd (true≢false e)

pub on_below : (n : ℤ) (y : ℕ) → not (non_neg n) ≡ true → on_side_of n y ≡ neg_ℤ (pos y)
unfolding on_side_of
on_below (pos a) y e = absurd (true≢false (sym e))
on_below (negsuc a) y e = refl

-- n is on the side of its high word
pub same-side : (high : ℤ) (low y : ℕ) → low < 2 ^ 64 → on_side_of (two_words high low) y ≡ on_side_of high y
unfolding on_side_of
same-side (pos h) low y l = side-above (pos h) low y refl
same-side (negsuc h) low y l = side-below (negsuc h) low y l refl

-- ---- the same by `nearest` itself, of a size of 64 bits over 2d
half-doubled : (x d : ℕ) → 0 < d → half_up x (2 * d) ≡ (x + d) / (2 * d)
half-doubled x d h =
    sym (plain x (2 * d) (omega arith)) ∙ ap (λ (y : ℕ). y / (2 * (2 * d))) (sym (mul-add 2 x d)) ∙ mul-div-mul_left (x + d) (2 * d) (omega arith)

pub nearest-size : (x d : ℕ) → nearest (pos x) d ≡ pos (half_up x d)
unfolding nearest on_side_of
nearest-size x d = refl

pub size_fits : (z : ℤ) (y : ℕ) → z ≡ pos y → mag z < 2 ^ 63 → nat_abs z < 2 ^ 63
size_fits z y e h = let m : mag (pos y) < 2 ^ 63 = rw e at h in rw e m

-- a point is the size's point on n's side of zero
pub reduced : (n : ℤ) (d P : ℕ) → 0 < d → 0 < P → on_side_of n (nat_abs (nearest (pos (2 * nat_abs n / P)) (2 * d))) ≡ nearest n (d * P)
unfolding nearest
reduced n d P h k =
    let x = 2 * nat_abs n / P in
    ap (λ z. on_side_of n (nat_abs z)) (nearest-size x (2 * d)) ∙ ap (on_side_of n) (half-doubled x d h ∙ shifted (nat_abs n) d P h k)

-- ---- twice a size over 1024^r: one shift
pub power : (r : ℕ) → r ≤ 4 → 2 ^ (10 * r) ≡ 1024 ^ r
power zero h = refl
power (suc zero) h = refl
power (suc (suc zero)) h = refl
power (suc (suc (suc zero))) h = refl
power (suc (suc (suc (suc zero)))) h = refl
power (suc (suc (suc (suc (suc r))))) h = absurd (omega arith)

pub positive : (r : ℕ) → 0 < 1024 ^ r
positive r = pow-le-pow_right {n = 1024} (omega arith) {i = 0} {j = r} (omega arith)

pub most : (r : ℕ) → r ≤ 4 → 1024 ^ r ≤ 2 ^ 40
most r h = pow-le-pow_right {n = 1024} (omega arith) {i = r} {j = 4} h

pub small : (r d : ℕ) (n : ℤ) → Roundable n d r → nat_abs n < 2 ^ 34 * 1024 ^ r
small r d n h = omega (arith, positive r, h.within, mul-le-mul_right (1024 ^ r) h.most)

pub doubled-below : (r size : ℕ) → size < 2 ^ 34 * 1024 ^ r → 2 * size / 1024 ^ r < 2 ^ 35
doubled-below r size h = (div-lt_iff_lt-mul (positive r)).1 (omega arith)

pub doubled-small : (r d : ℕ) (n : ℤ) → Roundable n d r → 2 * nat_abs n / 1024 ^ r < 2 ^ 35
doubled-small r d n h =
    (div-lt_iff_lt-mul (positive r)).1 (omega (arith, positive r, h.within, mul-le-mul_right (1024 ^ r) h.most))
