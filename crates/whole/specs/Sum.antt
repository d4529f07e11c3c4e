-- Finite sums of whole numbers. The terms of a sum over i + k = n are named by both indices, so that no subtraction
-- appears that could be cut off at 0. Assumes nothing.
use Rattle.std.specs.Prelude.{ℕ, zero, suc, ℤ, ◌+ℤ◌}

-- the sum over i + k = n, i from 0 to n: H 0 n + H 1 (n − 1) + … + H n 0
unfoldable pub sum_over : ℕ → (ℕ → ℕ → ℤ) → ℤ
sum_over zero H = H zero zero
sum_over (suc n) H = H zero (suc n) +ℤ sum_over n (λ i k. H (suc i) k)

-- f 0 + f 1 + … + f n
unfoldable pub sum_to : ℕ → (ℕ → ℤ) → ℤ
sum_to n f = sum_over n (λ i k. f i)
