-- What one argument makes of the numbers that hold a net. Assumes nothing.
use Rattle.std.specs.Prelude.{◌≡◌, List, ℕ, ◌+◌, ◌*◌, ◌-◌, ◌^◌, ◌≤◌, ◌<◌, ℤ, pos, nat_abs, ◌+ℤ◌, ◌-ℤ◌, ◌*ℤ◌, get_or}
use Rattle.sums.specs.steps.Layout.{before, further}

-- forms 1 and 2: "(1024 − u)·p(i) + u·p(i+1)"
unfoldable pub between : ℕ → ℤ → ℤ → ℤ
between s p q = (pos 1024 -ℤ pos s) *ℤ p +ℤ pos s *ℤ q

-- form 3: "x·p(i+1,j,k) + y·p(i,j+1,k) + z·p(i,j,k+1)", where z is what x and y leave of 1024
unfoldable pub among : ℕ → ℕ → ℤ → ℤ → ℤ → ℤ
among x y p q r = pos x *ℤ r +ℤ pos y *ℤ q +ℤ pos (1024 - x - y) *ℤ p

-- no number is above a bound
pub record Small (p : List ℤ) (bound : ℕ) : Type 0 where
  pub most : (k : ℕ) → nat_abs (get_or p k (pos 0)) ≤ bound

-- "every blossom value is at most 2^52 in size": what a number of the net is at most where `left` of at most four
-- arguments are still to be taken
unfoldable pub entry_most : ℕ → ℕ
entry_most left = 4096 * 1024 ^ (4 - left)

-- the first `count` numbers of a rectangle, each of itself and the one `gap` after it
pub record Slid (p : List ℤ) (s gap count : ℕ) (q : List ℤ) : Type 0 where
  pub each : (k : ℕ) → k < count → get_or q k (pos 0) ≡ between s (get_or p k (pos 0)) (get_or p (k + gap) (pos 0))
  pub most : (bound : ℕ) → Small p bound → Small q (1024 * bound)

-- the triangle of degree d - 1
pub record Lowered (p : List ℤ) (x y d : ℕ) (q : List ℤ) : Type 0 where
  pub each : (k : ℕ) → k < before d → get_or q k (pos 0) ≡ among x y (get_or p k (pos 0)) (get_or p (further k) (pos 0)) (get_or p (further k + 1) (pos 0))
  pub most : (bound : ℕ) → Small p bound → Small q (1024 * bound)
