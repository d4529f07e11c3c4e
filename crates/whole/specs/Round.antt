-- Rounding a fraction of whole numbers. "Rounded point: the nearest whole number" (01); "A half goes away from zero" (rule Halves;
-- 02, ticket 2), so that a number and its negative are rounded alike: the size is rounded, and the sign stays. Assumes nothing.
use Rattle.std.specs.Prelude.{◌≡◌, ℕ, zero, suc, ◌+◌, ◌*◌, ◌/◌, ◌≤◌, ◌<◌, ℤ, pos, negsuc, neg_ℤ, nat_abs}

-- the nearest natural number to x/d, a half going up: the floor of x/d + 1/2, which is written without fractions as that of
-- (2x + d)/2d; 0 where d is 0, since there is no such fraction
unfoldable pub half_up : ℕ → ℕ → ℕ
half_up x zero = 0
half_up x (suc e) = (2 * x + suc e) / (2 * suc e)

-- the number of size x on n's side of zero
unfoldable pub on_side_of : ℤ → ℕ → ℤ
on_side_of (pos a) x = pos x
on_side_of (negsuc a) x = neg_ℤ (pos x)

-- the nearest whole number to n/d, a half going away from zero; 0 where d is 0
unfoldable pub nearest : ℤ → ℕ → ℤ
nearest n d = on_side_of n (half_up (nat_abs n) d)

-- n/d with a quotient on n's side of zero and the size of what it leaves of n, at most d
pub record Divided (n : ℤ) (d : ℕ) (q : ℤ) (left : ℕ) : Type 0 where
  pub some : 0 < d
  pub side : q ≡ on_side_of n (nat_abs q)
  pub parts : d * nat_abs q + left ≡ nat_abs n
  pub most : left ≤ d
