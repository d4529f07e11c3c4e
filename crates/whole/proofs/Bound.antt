-- The size of whole numbers: what the sign-free part of a sum and of a product is, and a record x ⊑ y, "|x| ≤ y and y is
-- not negative", that goes through sums, products and powers on both sides at once. Every bound on a numerator and the
-- estimate of the error are read off it. Assumes nothing.
use mathlib.Core.Path.{◌≡◌, refl, ap, ap₂}
use mathlib.Core.Bool.{Bool, true, false, cond}
use Prim.Native.Nat.{ℕ, zero, suc, ◌+◌, ◌*◌, ◌-◌, ◌≤◌}
use native.Mathlib.Nat.{le_refl, le_trans, le_of_eq, add-le-add, mul-le-mul}
use native.Mathlib.Omega.{arith}
use lib.Dec.{ltb}
use lib.IntN.{ℤ, pos, negsuc, neg_ℤ, nat_abs, sub_ℕ, ◌+ℤ◌, ◌*ℤ◌, pow}
use Rattle.whole.proofs.Ring.{◌⊕◌, ◌⊗◌, pow-zero, pow-suc}

-- a difference with something taken away is, whichever way it turns out, at most the sum
nat_abs-sub : (a b : ℕ) → nat_abs (sub_ℕ a (suc b)) ≤ a + suc b
nat_abs-sub a b = either (ltb a (suc b))
  where
    either : (c : Bool) → nat_abs (cond c (negsuc (suc b - suc a)) (pos (a - suc b))) ≤ a + suc b
    either true = omega arith
    either false = omega arith

pub nat_abs-add : (a b : ℤ) → nat_abs (a +ℤ b) ≤ nat_abs a + nat_abs b
nat_abs-add (pos a) (pos b) = le_refl (a + b)
nat_abs-add (pos a) (negsuc b) = nat_abs-sub a b
nat_abs-add (negsuc a) (pos b) = omega (arith, nat_abs-sub b a)
nat_abs-add (negsuc a) (negsuc b) = omega arith

pub nat_abs-neg : (a : ℤ) → nat_abs (neg_ℤ a) ≡ nat_abs a
nat_abs-neg (pos zero) = refl
nat_abs-neg (pos (suc n)) = refl
nat_abs-neg (negsuc n) = refl

pub nat_abs_mul : (a b : ℤ) → nat_abs (a *ℤ b) ≡ nat_abs a * nat_abs b
nat_abs_mul (pos a) (pos b) = refl
nat_abs_mul (pos a) (negsuc b) = nat_abs-neg (pos (a * suc b))
nat_abs_mul (negsuc a) (pos b) = nat_abs-neg (pos (suc a * b))
nat_abs_mul (negsuc a) (negsuc b) = refl

infix 4 ◌⊑◌
pub record ◌⊑◌ (x y : ℤ) : Type 0 where
  pub bound : ℕ
  pub is : y ≡ pos bound
  pub within : nat_abs x ≤ bound

pub ⊑-of : {x : ℤ} {n : ℕ} → nat_abs x ≤ n → x ⊑ pos n
⊑-of {n = n} h = record { bound = n; is = refl; within = h }

pub ⊑-le : {x : ℤ} {n : ℕ} → x ⊑ pos n → nat_abs x ≤ n
⊑-le h = omega (arith, ap nat_abs h.is)

pub ⊑-refl-pos : (n : ℕ) → pos n ⊑ pos n
⊑-refl-pos n = ⊑-of (le_refl n)

pub ⊑-add : {a b c d : ℤ} → a ⊑ b → c ⊑ d → a ⊕ c ⊑ b ⊕ d
unfolding ◌⊕◌
⊑-add {a = a} {c = c} p q = record {
  bound = p.bound + q.bound;
  is = ap₂ ◌+ℤ◌ p.is q.is;
  within = le_trans (nat_abs-add a c)
      (add-le-add p.within q.within);
}

pub ⊑-mul : {a b c d : ℤ} → a ⊑ b → c ⊑ d → a ⊗ c ⊑ b ⊗ d
unfolding ◌⊗◌
⊑-mul {a = a} {c = c} p q = record {
  bound = p.bound * q.bound;
  is = ap₂ ◌*ℤ◌ p.is q.is;
  within = le_trans (le_of_eq (nat_abs_mul a c))
      (mul-le-mul p.within q.within);
}

pub ⊑-scale : (c : ℕ) {x y : ℤ} → x ⊑ y → pos c ⊗ x ⊑ pos c ⊗ y
⊑-scale c h = ⊑-mul (⊑-refl-pos c) h

pub ⊑-pow : (n : ℕ) {x y : ℤ} → x ⊑ y → pow x n ⊑ pow y n
⊑-pow zero {x} {y} h = rw (pow-zero x, pow-zero y) (⊑-refl-pos 1)
⊑-pow (suc n) {x} {y} h = rw (pow-suc x n, pow-suc y n) (⊑-mul h (⊑-pow n h))
