-- The binomial coefficient n over k, by Pascal's recursion. Assumes nothing.
use Rattle.std.specs.Prelude.{ℕ, zero, suc, ◌+◌}

unfoldable pub choose : ℕ → ℕ → ℕ
choose n zero = 1
choose zero (suc k) = 0
choose (suc n) (suc k) = choose n k + choose n (suc k)

-- n over R − s, and 0 where R is below s
unfoldable pub choose_from : ℕ → ℕ → ℕ → ℕ
choose_from n zero R = choose n R
choose_from n (suc s) zero = 0
choose_from n (suc s) (suc R) = choose_from n s R
