-- How many net entries the sum forms: the count of ticket 7 (rule Counting) where there is one group, and a bound for all. Assumes nothing.
use Rattle.std.specs.Prelude.{◌≡◌, List, ℕ, zero, suc, ◌+◌, ◌*◌, ◌≤◌, drop}
use Rattle.net.specs.runs.Tree.{formed}
use Rattle.sums.specs.gather.Table.{terms_of}

unfoldable pub most_formed : ℕ → ℕ
most_formed zero = 0
most_formed (suc l) = 10 * (15 + most_formed l)

-- K of ticket 7 (rule Counting): 1 for a row, 2 for a triangle
pub record Counted (t : List ℕ) (count K second left from r : ℕ) : Type 0 where
  pub one : second ≡ 0 → r ≡ formed K (drop from (terms_of t count 0)) left
  pub most : r ≤ most_formed left
