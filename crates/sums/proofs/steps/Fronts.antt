-- An array written from the front: n numbers, and then zeros. Assumes nothing.
use mathlib.Core.Path.{◌≡◌, refl, ◌∙◌}
use mathlib.Core.List.{List, [], ◌∷◌, ◌++◌}
use Prim.Native.Nat.{ℕ, zero, suc, ◌≤◌, ◌<◌}
use native.Mathlib.Nat.{not-suc-le-zero, le_of_suc-le-suc}
use native.Mathlib.Decide.{dec_lt}
use native.Mathlib.Omega.{arith}
use lib.IntN.{ℤ, pos, nat_abs}
use lib.ListN.{get_or, replicate}
use Rattle.whole.proofs.Fill.{zeros}
use Rattle.sums.specs.steps.Stepped.{Small}

-- f 0, .. f (n − 1), and m zeros
unfoldable pub front : ℕ → ℕ → (ℕ → ℤ) → List ℤ
front zero m f = replicate m (pos 0)
front (suc n) m f = f 0 ∷ front n m (λ k. f (suc k))

pub in-front : (n m : ℕ) (f : ℕ → ℤ) (i : ℕ) → i < n → get_or (front n m f) i (pos 0) ≡ f i
unfolding front
in-front zero m f i h = absurd (not-suc-le-zero h)
in-front (suc n) m f zero h = refl
in-front (suc n) m f (suc i) h = in-front n m (λ k. f (suc k)) i (le_of_suc-le-suc h)

pub behind : (n m : ℕ) (f : ℕ → ℤ) (i : ℕ) → n ≤ i → get_or (front n m f) i (pos 0) ≡ pos 0
unfolding front
behind zero m f i h = zeros m i
behind (suc n) m f zero h = absurd (not-suc-le-zero h)
behind (suc n) m f (suc i) h = behind n m (λ k. f (suc k)) i (le_of_suc-le-suc h)

-- each number within a bound
pub front-small : (n m : ℕ) (f : ℕ → ℤ) (bound : ℕ) → ((k : ℕ) → nat_abs (f k) ≤ bound) → Small (front n m f) bound
front-small n m f bound each = record { most = λ k. go k (dec_lt k n) }
  where
    go : (k : ℕ) → Dec (k < n) → nat_abs (get_or (front n m f) k (pos 0)) ≤ bound
    go k (yes h) = rw (in-front n m f k h) (each k)
    go k (no h) = rw (behind n m f k (omega arith)) (omega arith)

-- numbers that are known, and an array of five parts that are
pub by_three : {a a' b b' c c' : ℤ} → a ≡ a' → b ≡ b' → c ≡ c' → a ∷ b ∷ c ∷ [] ≡ a' ∷ b' ∷ c' ∷ []
by_three a b c = rw (a, b, c)

pub by-five : {l p p' q q' r r' s s' t t' : List ℤ} → l ≡ p ++ q ++ r ++ s ++ t → p ≡ p' → q ≡ q' → r ≡ r' → s ≡ s' → t ≡ t'
    → l ≡ p' ++ q' ++ r' ++ s' ++ t'
by-five e a b c d f = e ∙ rw (a, b, c, d, f)
