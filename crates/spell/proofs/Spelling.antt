-- Laws of a number's digits: the last one stands alone, their count, and a number by its sign and its size. Assumes nothing.
use mathlib.Core.Path.{◌≡◌, refl, sym, ap, ◌∙◌}
use mathlib.Core.Bool.{Bool, true, false, not}
use mathlib.Core.List.{List, [], ◌∷◌, ◌++◌}
use Prim.Native.Nat.{ℕ, zero, suc, ◌+◌, ◌/◌, ◌%◌, ◌^◌, ◌*◌, ◌≤◌, ◌<◌}
use native.Mathlib.Nat.{not-suc-le-zero, pow-suc}
use native.Mathlib.Omega.{arith}
use lib.Dec.{ltb}
use lib.IntN.{ℤ, pos, negsuc, nat_abs}
use lib.Signed.{mag, non_neg, nat_abs-le}
use lib.ListN.{length, set, length-append}
use lib.Seq.{sets}
use borrow.Author.Tests.{lt-ltb, le-ltb, ltb-true, ltb-false}
use Rattle.spell.specs.Decimal.{digits_of, digits, decimal}
use Rattle.spell.proofs.Writing.{sets_more}

-- a number below 10, or ten times what is over the last digit
module _ {A : Type 0} (n : ℕ) (few : n < 10 → A) (many : 10 ≤ n → A) where
  split : A
  split = go (ltb n 10) refl
    where
      go : (b : Bool) → ltb n 10 ≡ b → A
      go true e = few (ltb-true n 10 e)
      go false e = many (ltb-false n 10 e)

module _ (k n : ℕ) where
  one_of : n < 10 → digits_of (suc k) n ≡ (48 + n) ∷ []
  unfolding digits_of
  one_of l = rw (lt-ltb n 10 l, digits_of)

  more_of : 10 ≤ n → digits_of (suc k) n ≡ digits_of k (n / 10) ++ ((48 + n % 10) ∷ [])
  unfolding digits_of
  more_of l = rw (le-ltb n 10 l, digits_of)

-- how many digits are allowed does not matter
enough : (j k n : ℕ) → n < j → n < k → digits_of j n ≡ digits_of k n
enough zero k n l m = absurd (not-suc-le-zero l)
enough (suc j) zero n l m = absurd (not-suc-le-zero m)
enough (suc j) (suc k) n l m =
    split n (λ f. one_of j n f ∙ sym (one_of k n f))
    (λ f. more_of j n f ∙ ap (λ ds. ds ++ ((48 + n % 10) ∷ [])) (enough j k (n / 10) (omega arith) (omega arith))
    ∙ sym (more_of k n f))

module _ (n : ℕ) where
  pub digits-one : n < 10 → digits n ≡ (48 + n) ∷ []
  unfolding digits
  digits-one l = one_of n n l

  pub digits_more : 10 ≤ n → digits n ≡ digits (n / 10) ++ ((48 + n % 10) ∷ [])
  unfolding digits
  digits_more l =
      more_of n n l ∙ ap (λ ds. ds ++ ((48 + n % 10) ∷ [])) (enough n (suc (n / 10)) (n / 10) (omega arith) (omega arith))

  pub length_more : 10 ≤ n → length (digits n) ≡ length (digits (n / 10)) + 1
  length_more l = ap length (digits_more l) ∙ length-append (digits (n / 10)) _

pub length_digits : (k n : ℕ) → n < 10 ^ suc k → length (digits n) ≤ suc k
length_digits zero n l = let e = ap length (digits-one n l) in omega arith
length_digits (suc k) n l =
    split n (λ f. let e = ap length (digits-one n f) in omega arith)
    (λ f.
    let p : n < 10 ^ suc k * 10 = rw (pow-suc 10 (suc k)) at l in
    let h = length_digits k (n / 10) (omega arith) in
    omega (arith, length_more n f))

pub digits-stored : (n : ℕ) → 10 ≤ n → (l : List ℕ) (i : ℕ) → set (sets l i (digits (n / 10))) (i + length (digits (n / 10)))
    (48 + n % 10) ≡ sets l i (digits n)
digits-stored n m l i = rw (digits_more n m) (sym (sets_more l i (digits (n / 10)) (48 + n % 10)))

-- a whole number by its sign and its size
pub decimal-below : (z : ℤ) → not (non_neg z) ≡ true → decimal z ≡ 45 ∷ digits (nat_abs z)
unfolding decimal
decimal-below (pos n) t = cc
decimal-below (negsuc n) t = refl

pub decimal-above : (z : ℤ) → not (non_neg z) ≡ false → decimal z ≡ digits (nat_abs z)
unfolding decimal
decimal-above (pos n) t = refl
decimal-above (negsuc n) t = cc

-- a number of 64 bits has at most 20 digits, and at most 19 where it has a sign
pub twenty : (n : ℕ) → n < 2 ^ 64 → length (digits n) ≤ 20
twenty n l = length_digits 19 n (omega arith)

pub nineteen : (n : ℕ) (z : ℤ) → n ≡ nat_abs z → mag z < 2 ^ 63 → length (digits n) ≤ 19
nineteen n z e l = length_digits 18 n (omega (arith, nat_abs-le z l))
