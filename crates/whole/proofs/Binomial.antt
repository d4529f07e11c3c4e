-- Binomial coefficients, and sums weighed by them: Pascal's rule carries the binomial theorem and both forms of
-- Vandermonde's identity, by which Bernstein's formula and the size of a sum over all choices are found. Assumes nothing.
use mathlib.Core.Path.{◌≡◌, refl, sym, ◌∙◌, ap, ap₂}
use Prim.Native.Nat.{ℕ, zero, suc, ◌+◌, ◌<◌}
use native.Mathlib.Nat.{zero-add, add-zero, suc-add, add-suc}
use native.Mathlib.Omega.{arith}
use lib.IntN.{ℤ, pos, pow}
use Rattle.whole.specs.Sum.{sum_over}
use Rattle.whole.specs.Choose.{choose, choose_from}
use Rattle.whole.proofs.Ring.{◌⊕◌, ◌⊗◌, ⊕-left-comm, ⊕-⊗, ⊕-zero, ⊗-⊕, ⊗-assoc, ⊗-left-comm, zero-⊗, one-⊗, pos-add, pow-zero, pow-suc}
use Rattle.whole.proofs.Sums.{sum-zero, sum-suc, sum-last, sum-cong, sum-add, sum-scale, sum-none}

pub choose-zero : (n : ℕ) → choose n 0 ≡ 1
unfolding choose
choose-zero n = refl

pub choose-none : (k : ℕ) → choose 0 (suc k) ≡ 0
unfolding choose
choose-none k = refl

pub choose-pascal : (n k : ℕ) → choose (suc n) (suc k) ≡ choose n k + choose n (suc k)
unfolding choose
choose-pascal n k = refl

pub choose-above : (n k : ℕ) → n < k → choose n k ≡ 0
choose-above n zero h = absurd (omega arith)
choose-above zero (suc k) h = choose-none k
choose-above (suc n) (suc k) h = rw (choose-pascal, choose-above n k (omega arith), choose-above n (suc k) (omega arith))

pub choose-self : (n : ℕ) → choose n n ≡ 1
choose-self zero = choose-zero 0
choose-self (suc n) = rw (choose-pascal, choose-self n, choose-above n (suc n) (omega arith))

pub choose-sym : (n i k : ℕ) → i + k ≡ n → choose n i ≡ choose n k
choose-sym n zero k h = rw (choose-zero, ← h, zero-add, choose-self)
choose-sym n (suc i) zero h = rw (choose-zero, ← h, add-zero, choose-self)
choose-sym zero (suc i) (suc k) h = choose-none i ∙ sym (choose-none k)
choose-sym (suc n) (suc i) (suc k) h = rw (
  choose-pascal n i,
  choose-pascal n k,
  choose-sym n i (suc k) (omega arith),
  choose-sym n (suc i) k
      (omega arith),
) (omega arith)

-- Pascal's rule under a sum of any length: each later coefficient splits in two, and the second parts, with the first term,
-- make the whole sum at n
pascal-sum : (R n : ℕ) (J : ℕ → ℕ → ℤ)
    → sum_over (suc R) (λ i k. pos (choose (suc n) i) ⊗ J i k)
    ≡ sum_over R (λ i k. pos (choose n i) ⊗ J (suc i) k) ⊕ sum_over (suc R) (λ i k. pos (choose n i) ⊗ J i k)
pascal-sum R n J =
    sum-suc R (λ i k. pos (choose (suc n) i) ⊗ J i k)
    ∙ ap₂ ◌⊕◌ (ap (λ c. pos c ⊗ J 0 (suc R)) (choose-zero (suc n) ∙ sym (choose-zero n))) (sum-cong R _ _ (λ i k. split i (J (suc i) k)) ∙ sum-add R _ _)
    ∙ ⊕-left-comm _ _ _
    ∙ ap (λ x. sum_over R (λ i k. pos (choose n i) ⊗ J (suc i) k) ⊕ x) (sym (sum-suc R (λ i k. pos (choose n i) ⊗ J i k)))
  where
    split : (i : ℕ) (x : ℤ) → pos (choose (suc n) (suc i)) ⊗ x ≡ pos (choose n i) ⊗ x ⊕ pos (choose n (suc i)) ⊗ x
    split i x = rw (choose-pascal n i, pos-add, ⊕-⊗)

-- the sum over i + k = n of H i k, as often as i can be chosen of n
unfoldable pub weighed : ℕ → (ℕ → ℕ → ℤ) → ℤ
weighed n H = sum_over n (λ i k. pos (choose n i) ⊗ H i k)

pub weighed-zero : (H : ℕ → ℕ → ℤ) → weighed 0 H ≡ H 0 0
unfolding weighed
weighed-zero H = sum-zero (λ i k. pos (choose 0 i) ⊗ H i k) ∙ ap (λ c. pos c ⊗ H 0 0) (choose-zero 0) ∙ one-⊗ (H 0 0)

pub weighed-suc : (n : ℕ) (H : ℕ → ℕ → ℤ) → weighed (suc n) H ≡ weighed n (λ i k. H (suc i) k) ⊕ weighed n (λ i k. H i (suc k))
unfolding weighed
weighed-suc n H =
    pascal-sum n n H
    ∙ ap (λ x. sum_over n (λ i k. pos (choose n i) ⊗ H (suc i) k) ⊕ x) (sum-last n (λ i k. pos (choose n i) ⊗ H i k))
    ∙ rw (choose-above n (suc n) (omega arith), zero-⊗, ⊕-zero)

pub weighed-cong : (n : ℕ) (H J : ℕ → ℕ → ℤ) → ((i k : ℕ) → H i k ≡ J i k) → weighed n H ≡ weighed n J
weighed-cong n H J e = λ t. weighed n (λ i k. e i k t)

pub weighed-add : (n : ℕ) (H J : ℕ → ℕ → ℤ) → weighed n (λ i k. H i k ⊕ J i k) ≡ weighed n H ⊕ weighed n J
unfolding weighed
weighed-add n H J = sum-cong n _ _ (λ i k. ⊗-⊕ (pos (choose n i)) (H i k) (J i k)) ∙ sum-add n _ _

pub weighed-scale : (n : ℕ) (c : ℤ) (H : ℕ → ℕ → ℤ) → weighed n (λ i k. c ⊗ H i k) ≡ c ⊗ weighed n H
unfolding weighed
weighed-scale n c H = sum-cong n _ _ (λ i k. ⊗-left-comm (pos (choose n i)) c (H i k)) ∙ sum-scale n c _

pub binomial : (n : ℕ) (a b : ℤ) → weighed n (λ i k. pow a i ⊗ pow b k) ≡ pow (a ⊕ b) n
binomial zero a b = weighed-zero (λ i k. pow a i ⊗ pow b k) ∙ rw (pow-zero a, pow-zero b, pow-zero (a ⊕ b), one-⊗)
binomial (suc n) a b =
    weighed-suc n (λ i k. pow a i ⊗ pow b k)
    ∙ ap₂ ◌⊕◌ (weighed-cong n _ _ (λ i k. one-a i (pow b k)) ∙ weighed-scale n a _) (weighed-cong n _ _ (λ i k. one_b k (pow a i)) ∙ weighed-scale n b _)
    ∙ sym (⊕-⊗ a b _)
    ∙ rw (binomial n a b, pow-suc (a ⊕ b) n)
  where
    one-a : (i : ℕ) (y : ℤ) → pow a (suc i) ⊗ y ≡ a ⊗ (pow a i ⊗ y)
    one-a i y = rw (pow-suc a i, ⊗-assoc)

    one_b : (k : ℕ) (x : ℤ) → x ⊗ pow b (suc k) ≡ b ⊗ (x ⊗ pow b k)
    one_b k x = rw (pow-suc b k, ⊗-left-comm x b)

pub vandermonde : (m n R : ℕ) → sum_over R (λ i k. pos (choose m i) ⊗ pos (choose n k)) ≡ pos (choose (m + n) R)
vandermonde m n zero = sum-zero (λ i k. pos (choose m i) ⊗ pos (choose n k)) ∙ rw (choose-zero m, choose-zero n, choose-zero (m + n), one-⊗)
vandermonde zero n (suc R) =
    sum-suc R (λ i k. pos (choose 0 i) ⊗ pos (choose n k))
    ∙ ap₂ ◌⊕◌ (ap (λ c. pos c ⊗ pos (choose n (suc R))) (choose-zero 0)) (sum-cong R _ _
    (λ i k. ap (λ c. pos c ⊗ pos (choose n k)) (choose-none i) ∙ zero-⊗ _) ∙ sum-none R)
    ∙ rw (one-⊗, ⊕-zero, zero-add)
vandermonde (suc m) n (suc R) = pascal-sum R m (λ i k. pos (choose n k)) ∙ rw (vandermonde m n R, vandermonde m n (suc R), suc-add, choose-pascal, pos-add)

pub choose_from-zero : (n R : ℕ) → choose_from n 0 R ≡ choose n R
unfolding choose_from
choose_from-zero n R = refl

pub choose_from-pascal : (n s R : ℕ) → choose_from (suc n) s R ≡ choose_from n (suc s) R + choose_from n s R
unfolding choose_from
choose_from-pascal n zero zero = rw (choose-zero (suc n), choose-zero n)
choose_from-pascal n zero (suc R) = choose-pascal n R
choose_from-pascal n (suc s) zero = refl
choose_from-pascal n (suc s) (suc R) = choose_from-pascal n s R

-- Vandermonde's identity with the sum over all that the first N can give, for a sum over all choices
pub vandermonde-from : (N n s R : ℕ) → weighed N (λ c k. pos (choose_from n (s + c) R)) ≡ pos (choose_from (N + n) s R)
vandermonde-from zero n s R = weighed-zero (λ c k. pos (choose_from n (s + c) R)) ∙ rw (add-zero, zero-add)
vandermonde-from (suc N) n s R =
    weighed-suc N (λ c k. pos (choose_from n (s + c) R))
    ∙ ap₂ ◌⊕◌ (weighed-cong N _ _ (λ c k. rw (add-suc, ← suc-add)) ∙ vandermonde-from N n (suc s) R) (vandermonde-from N n s R)
    ∙ rw (suc-add, choose_from-pascal, pos-add)
