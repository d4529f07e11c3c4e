-- A signed operation reads its operands from their bits and writes its result as bits. Where the operands and the result
-- fit, nothing is lost: laws for division and for a step away from zero.
-- Assumes nothing.
use mathlib.Core.Path.{◌≡◌, refl, sym, ◌∙◌, ap, ap₂}
use mathlib.Core.Bool.{true, false, not, true≢false}
use Prim.Native.Nat.{ℕ, zero, suc, ◌+◌, ◌*◌, ◌/◌, ◌%◌, ◌^◌, ◌≤◌, ◌<◌}
use native.Mathlib.Nat.{mul_comm, div-add-mod, div-le_self, mod-le}
use native.Mathlib.Omega.{arith}
use lib.IntN.{ℤ, pos, negsuc, neg_ℤ, nat_abs, ◌+ℤ◌, ◌-ℤ◌, ◌*ℤ◌, +ℤ-neg_ℤ_cancel, neg_ℤ-+ℤ, pos-*ℤ-pos}
use lib.Signed.{mag, non_neg, lt_z, quot_z}
use borrow.Author.Tests.{le-ltb}
use mir.Syntax.{w64}
use mir.Val.{SFits, to_z, of_z}
use mir.Facts.{to_z-of_z, to_z_pos}
use Rattle.whole.specs.Round.{on_side_of}
use Rattle.whole.proofs.Ring.{negℤ-*ℤ}

-- z written as bits and read again
abbrev pub again : ℤ → ℤ
again z = to_z w64 (of_z w64 z)

pub again-is : (z : ℤ) → mag z < 2 ^ 63 → again z ≡ z
again-is z h = to_z-of_z {w = w64} {z = z} (record { sfits = h })

-- ---- the sign
sign-is : (z : ℤ) → mag z < 2 ^ 63 → lt_z (again z) (pos 0) ≡ not (non_neg z)
sign-is z h = ap (λ x. lt_z x (pos 0)) (again-is z h) ∙ sign z
  where
    sign : (z : ℤ) → lt_z z (pos 0) ≡ not (non_neg z)
    sign (pos a) = le-ltb a 0 (omega arith)
    sign (negsuc a) = refl

-- ---- no further from zero than n, on its side: what is written as bits is read again
pub record Written (z r : ℤ) : Type 0 where
  pub fits : SFits w64 z
  pub is : again z ≡ r

side-fits : (n : ℤ) (x : ℕ) → mag n < 2 ^ 63 → x ≤ nat_abs n → mag (on_side_of n x) < 2 ^ 63
unfolding on_side_of
side-fits (pos a) x h m = omega arith
side-fits (negsuc a) zero h m = omega arith
side-fits (negsuc a) (suc x) h m = omega arith

beside : (n : ℤ) (x : ℕ) {z : ℤ} → mag n < 2 ^ 63 → x ≤ nat_abs n → z ≡ on_side_of n x → Written z (on_side_of n x)
beside n x h m e =
    let f = side-fits n x h m in
    record { fits = rw e (record { sfits = f }); is = ap again e ∙ again-is (on_side_of n x) f }

-- d times a number, and a number less a part of it, each on n's side
side-times : (n : ℤ) (x d : ℕ) → on_side_of n x *ℤ pos d ≡ on_side_of n (x * d)
unfolding on_side_of
side-times (pos a) x d = pos-*ℤ-pos x d
side-times (negsuc a) x d = negℤ-*ℤ (pos x) (pos d) ∙ ap neg_ℤ (pos-*ℤ-pos x d)

side_left : (n : ℤ) (x y : ℕ) → nat_abs n ≡ x + y → n -ℤ on_side_of n y ≡ on_side_of n x
unfolding on_side_of
side_left (pos a) x y e = ap (λ (b : ℕ). pos b -ℤ pos y) e ∙ +ℤ-neg_ℤ_cancel (pos x) (pos y)
side_left (negsuc a) x y e =
    ap (λ (b : ℕ). neg_ℤ (pos b) -ℤ neg_ℤ (pos y)) e ∙ ap (λ z. z -ℤ neg_ℤ (pos y)) (neg_ℤ-+ℤ (pos x) (pos y))
    ∙ +ℤ-neg_ℤ_cancel (neg_ℤ (pos x)) (neg_ℤ (pos y))

-- what division by d gives
module _ (n : ℤ) (d : ℕ) (h : mag n < 2 ^ 63) (few : d < 2 ^ 63) where
  pub quotient-written : Written (quot_z (again n) (to_z w64 d)) (on_side_of n (nat_abs n / d))
  unfolding on_side_of
  quotient-written = beside n _ h (div-le_self (nat_abs n) d) (ap₂ quot_z (again-is n h) (to_z_pos w64 few) ∙ cut n)
    where
      cut : (n : ℤ) → quot_z n (pos d) ≡ on_side_of n (nat_abs n / d)
      cut (pos a) = refl
      cut (negsuc a) = refl

  -- and what the quotient leaves, by its product with d
  module _ (q : ℤ) (k : mag q < 2 ^ 63) (e : q ≡ on_side_of n (nat_abs n / d)) where
    pub product-written : Written (again q *ℤ to_z w64 d) (on_side_of n (nat_abs n / d * d))
    product-written =
        let most : nat_abs n / d * d ≤ nat_abs n = omega (arith, mul_comm (nat_abs n / d) d, div-add-mod (nat_abs n) d) in
        beside n _ h most (ap₂ ◌*ℤ◌ (again-is q k ∙ e) (to_z_pos w64 few) ∙ side-times n (nat_abs n / d) d)

    pub left-written : Written (again n -ℤ again (again q *ℤ to_z w64 d)) (on_side_of n (nat_abs n % d))
    left-written =
        let all : nat_abs n ≡ nat_abs n % d + nat_abs n / d * d = omega (arith, mul_comm (nat_abs n / d) d, div-add-mod (nat_abs n) d) in
        beside n _ h (mod-le (nat_abs n) d) (ap₂ (λ x y. x -ℤ y) (again-is n h) product-written.is ∙ side_left n _ _ all)

-- so many further from zero than q, which is on n's side, and then no further than n
module _ (n q : ℤ) (x : ℕ) (h : mag n < 2 ^ 63) (k : mag q < 2 ^ 63) (e : q ≡ on_side_of n (nat_abs q)) (m : nat_abs q + x ≤ nat_abs n) (few : x < 2 ^ 63) where
  pub down-written : lt_z (again n) (pos 0) ≡ true → Written (again q -ℤ to_z w64 x) (on_side_of n (nat_abs q + x))
  unfolding on_side_of
  down-written t = beside n _ h m (ap₂ ◌-ℤ◌ (again-is q k ∙ e) (to_z_pos w64 few) ∙ down n (nat_abs q) (sym (sign-is n h) ∙ t))
    where
      down : (n : ℤ) (y : ℕ) → not (non_neg n) ≡ true → on_side_of n y -ℤ pos x ≡ on_side_of n (y + x)
      down (pos a) y t = absurd (true≢false (sym t))
      down (negsuc a) y t = sym (neg_ℤ-+ℤ (pos y) (pos x))

  pub up-written : lt_z (again n) (pos 0) ≡ false → Written (again q +ℤ to_z w64 x) (on_side_of n (nat_abs q + x))
  unfolding on_side_of
  up-written t = beside n _ h m (ap₂ ◌+ℤ◌ (again-is q k ∙ e) (to_z_pos w64 few) ∙ up n (nat_abs q) (sym (sign-is n h) ∙ t))
    where
      up : (n : ℤ) (y : ℕ) → not (non_neg n) ≡ false → on_side_of n y +ℤ pos x ≡ on_side_of n (y + x)
      up (pos a) y t = refl
      up (negsuc a) y t = absurd (true≢false t)
