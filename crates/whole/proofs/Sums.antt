-- Laws of the sums over i + k = n: how one unfolds, that it is linear, that two of them may be exchanged. They carry the
-- binomial laws and every bound on a sum. Assumes nothing.
use mathlib.Core.Path.{◌≡◌, refl, sym, ◌∙◌, ap, ap₂}
use Prim.Native.Nat.{ℕ, zero, suc, ◌+◌}
use native.Mathlib.Nat.{zero-add, suc-add}
use lib.IntN.{ℤ, pos}
use Rattle.whole.specs.Sum.{sum_over, sum_to}
use Rattle.whole.proofs.Ring.{◌⊕◌, ◌⊗◌, add-ac, ⊗-⊕, ⊕-assoc, zero-⊕}

pub sum-zero : (H : ℕ → ℕ → ℤ) → sum_over 0 H ≡ H 0 0
unfolding sum_over
sum-zero H = refl

pub sum-suc : (n : ℕ) (H : ℕ → ℕ → ℤ) → sum_over (suc n) H ≡ H 0 (suc n) ⊕ sum_over n (λ i k. H (suc i) k)
unfolding sum_over ◌⊕◌
sum-suc n H = refl

pub sum_to-is : (n : ℕ) (f : ℕ → ℤ) → sum_to n f ≡ sum_over n (λ i k. f i)
unfolding sum_to
sum_to-is n f = refl

pub sum-cong : (n : ℕ) (H J : ℕ → ℕ → ℤ) → ((i k : ℕ) → H i k ≡ J i k) → sum_over n H ≡ sum_over n J
sum-cong n H J e = λ t. sum_over n (λ i k. e i k t)

-- only the terms with i + k = n count
pub sum-cong-on : (n : ℕ) (H J : ℕ → ℕ → ℤ) → ((i k : ℕ) → i + k ≡ n → H i k ≡ J i k) → sum_over n H ≡ sum_over n J
sum-cong-on zero H J e = rw (sum-zero H, sum-zero J) (e 0 0 refl)
sum-cong-on (suc n) H J e = rw (sum-suc n H, sum-suc n J) (ap₂ ◌⊕◌ (e 0 (suc n) (zero-add _))
    (sum-cong-on n _ _ (λ i k h. e (suc i) k (suc-add i k ∙ ap suc h))))

pub sum-add : (n : ℕ) (H J : ℕ → ℕ → ℤ) → sum_over n (λ i k. H i k ⊕ J i k) ≡ sum_over n H ⊕ sum_over n J
sum-add zero H J = rw (sum-zero (λ i k. H i k ⊕ J i k), sum-zero H, sum-zero J)
sum-add (suc n) H J = rw (sum-suc n (λ i k. H i k ⊕ J i k), sum-suc n H, sum-suc n J, sum-add n (λ i k. H (suc i) k) (λ i k. J (suc i) k)) (simp add-ac)

pub sum-scale : (n : ℕ) (c : ℤ) (H : ℕ → ℕ → ℤ) → sum_over n (λ i k. c ⊗ H i k) ≡ c ⊗ sum_over n H
sum-scale zero c H = rw (sum-zero (λ i k. c ⊗ H i k), sum-zero H)
sum-scale (suc n) c H = rw (sum-suc n (λ i k. c ⊗ H i k), sum-suc n H, sum-scale n c (λ i k. H (suc i) k), ⊗-⊕)

pub sum-none : (n : ℕ) → sum_over n (λ i k. pos 0) ≡ pos 0
sum-none zero = sum-zero (λ i k. pos 0)
sum-none (suc n) = sum-suc n (λ i k. pos 0) ∙ zero-⊕ _ ∙ sum-none n

pub sum-swap : (m n : ℕ) (H : ℕ → ℕ → ℕ → ℕ → ℤ) → sum_over m (λ i k. sum_over n (λ j l. H i k j l)) ≡ sum_over n (λ j l. sum_over m (λ i k. H i k j l))
sum-swap zero n H = sum-zero (λ i k. sum_over n (λ j l. H i k j l)) ∙ sum-cong n _ _ (λ j l. sym (sum-zero (λ i k. H i k j l)))
sum-swap (suc m) n H =
    sum-suc m (λ i k. sum_over n (λ j l. H i k j l)) ∙ ap (λ x. sum_over n (λ j l. H 0 (suc m) j l) ⊕ x) (sum-swap m n (λ i k. H (suc i) k))
    ∙ sym (sum-add n (λ j l. H 0 (suc m) j l) (λ j l. sum_over m (λ i k. H (suc i) k j l)))
    ∙ sum-cong n _ _ (λ j l. sym (sum-suc m (λ i k. H i k j l)))

-- the last term split off, where `sum-suc` splits off the first
pub sum-last : (n : ℕ) (H : ℕ → ℕ → ℤ) → sum_over (suc n) H ≡ sum_over n (λ i k. H i (suc k)) ⊕ H (suc n) 0
sum-last zero H = rw (sum-suc 0 H, sum-zero (λ i k. H (suc i) k), sum-zero (λ i k. H i (suc k)))
sum-last (suc n) H = rw (sum-suc (suc n) H, sum-last n (λ i k. H (suc i) k), sum-suc n (λ i k. H i (suc k)), ⊕-assoc)
