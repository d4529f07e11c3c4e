-- Rounding: the nearest whole number to n/d is off by at most half, at exactly half it is the one further from zero, and no
-- other number is both. What is proved of rounding elsewhere goes by these laws and not by the definition, which the tie
-- rule is part of. Assumes nothing.
use mathlib.Core.Path.{◌≡◌, refl, sym, ◌∙◌, ap}
use mathlib.Core.Bool.{Bool, true, false, cond}
use mathlib.Core.List.{List, [], ◌∷◌, map}
use Prim.Native.Nat.{ℕ, zero, suc, ◌+◌, ◌*◌, ◌-◌, ◌^◌, ◌≤◌, ◌<◌}
use native.Mathlib.Nat.{mul-suc, div-add-mod, mod-lt, div-eq_of_lt-le, lt_of_mul-lt-mul_left}
use native.Mathlib.Decide.{dec_lt}
use native.Mathlib.Omega.{arith}
use lib.Dec.{ltb}
use lib.IntN.{ℤ, pos, negsuc, neg_ℤ, nat_abs, ◌-ℤ◌, ◌*ℤ◌, neg_ℤ-neg_ℤ}
use borrow.Author.Tests.{ltb-true, ltb-false}
use Rattle.whole.specs.Round.{half_up, on_side_of, nearest}
use Rattle.whole.proofs.Ring.{◌⊕◌, ◌⊖◌, ◌⊗◌, ⊝◌, ring, subs, mul-sub, sub-⊕, sub-eq}
use Rattle.whole.proofs.Bound.{nat_abs-add, nat_abs_mul, nat_abs-neg}

-- ---- "exact at halves, zero and both ends of the range": a numerator, a denominator and the rounded point
table : List (ℤ × ℕ × ℤ)
table =
    (pos 1, 2, pos 1)
    ∷ (negsuc 0, 2, negsuc 0)
    ∷ (pos 3, 2, pos 2)
    ∷ (negsuc 2, 2, negsuc 1)
    ∷ (pos 5, 2, pos 3)
    ∷ (negsuc 4, 2, negsuc 2)
    ∷ (negsuc 3, 3, negsuc 0)
    ∷ (negsuc 4, 3, negsuc 1)
    ∷ (pos 0, 2, pos 0)
    ∷ (pos (2 ^ 63 - 1), 1, pos (2 ^ 63 - 1))
    ∷ (negsuc (2 ^ 63 - 1), 1, negsuc (2 ^ 63 - 1))
    ∷ (pos (2 ^ 63 - 1), 2, pos (2 ^ 62))
    ∷ (negsuc (2 ^ 63 - 2), 2, negsuc (2 ^ 62 - 1))
    ∷ (negsuc (2 ^ 63 - 1), 2 ^ 63, negsuc 0)
    ∷ (pos (2 ^ 63 - 1), 2 ^ 64 - 1, pos 0)
    ∷ (negsuc (2 ^ 63 - 1), 2 ^ 64 - 1, negsuc 0)
    ∷ []

as-tabled : map (λ r. nearest r.0 r.1) table ≡ map (λ r. r.2) table
unfolding table nearest on_side_of half_up
as-tabled = refl

-- ---- of a size: −1/2 ≤ x/d − y < 1/2
pub record HalfUp (x d y : ℕ) : Type 0 where
  pub above : 2 * (d * y) ≤ 2 * x + d
  pub below : 2 * x < 2 * (d * y) + d

half-up-is : (x d : ℕ) → 0 < d → HalfUp x d (half_up x d)
unfolding half_up
half-up-is x zero h = absurd (omega arith)
half-up-is x (suc e) h =
    let m = 2 * suc e in
    omega (arith, div-add-mod (2 * x + suc e) m, mod-lt (2 * x + suc e) {m = m} (omega arith))

pub half-up-only : (x d y : ℕ) → HalfUp x d y → y ≡ half_up x d
unfolding half_up
half-up-only x zero y h = absurd (omega arith)
half-up-only x (suc e) y h = sym (div-eq_of_lt-le (2 * suc e) (omega arith) (omega arith))

-- ---- the nearest, a half going away from zero
pub record Nearest (n : ℤ) (d : ℕ) (p : ℤ) : Type 0 where
  pub error : nat_abs (pos 2 *ℤ (pos d *ℤ p -ℤ n)) ≤ d
  pub away : nat_abs (pos 2 *ℤ (pos d *ℤ p -ℤ n)) ≡ d → nat_abs n ≤ d * nat_abs p

-- negated, nothing changes its size
opposite : (n p d : ℤ) → d ⊗ ⊝ p ⊖ ⊝ n ≡ ⊝ (d ⊗ p ⊖ n)
opposite n p d = simp subs (sub-eq _ _ _ _ (simp ring))

mirrored-error : (n p : ℤ) (d : ℕ) → nat_abs (pos 2 *ℤ (pos d *ℤ neg_ℤ p -ℤ neg_ℤ n)) ≡ nat_abs (pos 2 *ℤ (pos d *ℤ p -ℤ n))
unfolding ◌⊖◌ ◌⊗◌ ⊝◌
mirrored-error n p d =
    let z = pos d *ℤ p -ℤ n in
    ap (λ y. nat_abs (pos 2 *ℤ y)) (opposite n p (pos d))
    ∙ nat_abs_mul (pos 2) (neg_ℤ z) ∙ ap (λ (x : ℕ). 2 * x) (nat_abs-neg z) ∙ sym (nat_abs_mul (pos 2) z)

mirrored : (n p : ℤ) (d : ℕ) → Nearest n d p → Nearest (neg_ℤ n) d (neg_ℤ p)
mirrored n p d r = record {
  error = rw mirrored-error r.error;
  away = λ e. rw (nat_abs-neg n, nat_abs-neg p) (r.away (sym (mirrored-error n p d) ∙ e));
}

-- of two numbers that are not negative, and of one that is
pub distance : (a b : ℕ) → nat_abs (pos a -ℤ pos b) ≡ (a - b) + (b - a)
distance a zero = omega arith
distance a (suc b) = either (ltb a (suc b)) refl
  where
    either : (c : Bool) → ltb a (suc b) ≡ c → nat_abs (cond c (negsuc (suc b - suc a)) (pos (a - suc b))) ≡ (a - suc b) + (suc b - a)
    either true e = omega (arith, ltb-true a (suc b) e)
    either false e = omega (arith, ltb-false a (suc b) e)

error-is : (x d y : ℕ) → nat_abs (pos 2 *ℤ (pos d *ℤ pos y -ℤ pos x)) ≡ 2 * ((d * y - x) + (x - d * y))
error-is x d y = nat_abs_mul (pos 2) (pos (d * y) -ℤ pos x) ∙ ap (λ (z : ℕ). 2 * z) (distance (d * y) x)

across : (n p d : ℤ) → d ⊗ ⊝ p ⊖ n ≡ ⊝ (d ⊗ p ⊕ n)
across n p d = simp subs (sub-eq _ _ _ _ (simp ring))

across-error : (x d y : ℕ) → nat_abs (pos 2 *ℤ (pos d *ℤ negsuc y -ℤ pos x)) ≡ 2 * (d * suc y + x)
unfolding ◌⊕◌ ◌⊖◌ ◌⊗◌ ⊝◌
across-error x d y =
    ap (λ z. nat_abs (pos 2 *ℤ z)) (across (pos x) (pos (suc y)) (pos d))
    ∙ nat_abs_mul (pos 2) (neg_ℤ (pos (d * suc y + x))) ∙ ap (λ (z : ℕ). 2 * z) (nat_abs-neg (pos (d * suc y + x)))

-- for a numerator that is not negative; the other side of zero is its mirror
size_is : (x d : ℕ) → 0 < d → Nearest (pos x) d (pos (half_up x d))
size_is x d h =
    let r = half-up-is x d h in
    let e = error-is x d (half_up x d) in
    record { error = omega arith; away = λ t. omega arith }

size-only : (x d : ℕ) (p : ℤ) → 0 < d → Nearest (pos x) d p → p ≡ pos (half_up x d)
size-only x d (negsuc y) h r = absurd (omega (arith, across-error x d y, r.error, mul-suc d y))
size-only x d (pos y) h r = ap pos (half-up-only x d y (record { above = omega (arith, e, r.error); below = strict (dec_lt (2 * x) (2 * (d * y) + d)) }))
  where
    e : nat_abs (pos 2 *ℤ (pos d *ℤ pos y -ℤ pos x)) ≡ 2 * ((d * y - x) + (x - d * y))
    e = error-is x d y

    strict : Dec (2 * x < 2 * (d * y) + d) → 2 * x < 2 * (d * y) + d
    strict (yes l) = l
    strict (no m) = absurd (omega (arith, r.away (omega (arith, e, r.error))))

pub nearest-is : (n : ℤ) (d : ℕ) → 0 < d → Nearest n d (nearest n d)
unfolding nearest on_side_of
nearest-is (pos a) d h = size_is a d h
nearest-is (negsuc a) d h = mirrored (pos (suc a)) (pos (half_up (suc a) d)) d (size_is (suc a) d h)

pub nearest-only : (n p : ℤ) (d : ℕ) → 0 < d → Nearest n d p → p ≡ nearest n d
unfolding nearest on_side_of
nearest-only (pos a) p d h r = size-only a d p h r
nearest-only (negsuc a) p d h r = sym (neg_ℤ-neg_ℤ p) ∙ ap neg_ℤ (size-only (suc a) d (neg_ℤ p) h (mirrored (negsuc a) p d r))

-- there is no fraction with the denominator 0
pub nearest-none : (n : ℤ) → nearest n 0 ≡ pos 0
unfolding nearest on_side_of half_up
nearest-none (pos a) = refl
nearest-none (negsuc a) = refl

-- ---- "Port and starboard must mirror"
pub nearest-neg : (n : ℤ) (d : ℕ) → nearest (neg_ℤ n) d ≡ neg_ℤ (nearest n d)
nearest-neg n zero = nearest-none (neg_ℤ n) ∙ ap neg_ℤ (sym (nearest-none n))
nearest-neg n (suc e) =
    let h : 0 < suc e = omega arith in
    sym (nearest-only (neg_ℤ n) (neg_ℤ (nearest n (suc e))) (suc e) h (mirrored n (nearest n (suc e)) (suc e) (nearest-is n (suc e) h)))

-- twice the error is at most the denominator
pub nearest-error : (n : ℤ) (d : ℕ) → 0 < d → nat_abs (pos 2 *ℤ (pos d *ℤ nearest n d -ℤ n)) ≤ d
nearest-error n d h = (nearest-is n d h).error

-- ---- the size: a rounded point of a fraction within ±b is within ±b, by its error alone
restore : (n p : ℤ) (d : ℕ) → pos 2 ⊗ (pos d ⊗ p) ≡ pos 2 ⊗ (pos d ⊗ p ⊖ n) ⊕ pos 2 ⊗ n
restore n p d = rw (mul-sub, sub-⊕)

pub near-size : (n p : ℤ) (d b : ℕ) → 0 < d → nat_abs (pos 2 *ℤ (pos d *ℤ p -ℤ n)) ≤ d → nat_abs n ≤ d * b → nat_abs p ≤ b
unfolding ◌⊕◌ ◌⊗◌ ◌⊖◌
near-size n p d b h e k =
    let s = nat_abs-add (pos 2 *ℤ (pos d *ℤ p -ℤ n)) (pos 2 *ℤ n) in
    let m = nat_abs_mul (pos 2) (pos d *ℤ p) ∙ ap (λ (x : ℕ). 2 * x) (nat_abs_mul (pos d) p) in
    let l : d * nat_abs p < d * suc b = omega (arith, nat_abs_mul (pos 2) n, ap nat_abs (restore n p d), mul-suc d b) in
    let f : nat_abs p < suc b = lt_of_mul-lt-mul_left d l in
    omega arith

pub nearest-size : (n : ℤ) (d b : ℕ) → 0 < d → nat_abs n ≤ d * b → nat_abs (nearest n d) ≤ b
nearest-size n d b h k = near-size n (nearest n d) d b h (nearest-error n d h) k
