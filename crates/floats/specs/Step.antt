-- One blossom step of form 1 as the card computes it, and where it is exact. Assumes nothing.
use Rattle.std.specs.Prelude.{◌≡◌, ℕ, ◌*◌, ◌^◌, ◌≤◌, ℤ, pos, ◌+ℤ◌, ◌-ℤ◌, ◌*ℤ◌, unsigned_abs, Float}
use Rattle.std.specs.Float.{binary64}
use Rattle.std.specs.Float.Ieee.{add, sub, mul}
use Rattle.request.specs.units.Bounds.{path_one}
use Rattle.floats.specs.Float.{float, bits}

-- "(1024 − u)·p(i) + u·p(i+1)", each operation rounded
unfoldable pub mixed : Float → Float → Float → Float
mixed a b u = add binary64 (mul binary64 (sub binary64 (float (pos path_one)) u) a) (mul binary64 u b)

-- a and b are whole numbers of at most 2^43, so that 1,024 of either is at most 2^53; u is a path number
pub record Exact (a b u : Float) (z y : ℤ) (k : ℕ) : Type 0 where
  pub first : a ≡ float z
  pub second : b ≡ float y
  pub share : u ≡ float (pos k)
  pub share_most : k ≤ path_one
  pub first_most : unsigned_abs z * path_one ≤ 2 ^ 53
  pub second_most : unsigned_abs y * path_one ≤ 2 ^ 53

-- r is the step for all f64; "every product and sum is exact in f64": on whole numbers its bits are those of the integer
pub record Stepped (a b u r : Float) : Type 0 where
  pub is : r ≡ mixed a b u
  pub exact : (z y : ℤ) (k : ℕ) → Exact a b u z y k → bits r ≡ bits (float ((pos path_one -ℤ pos k) *ℤ z +ℤ pos k *ℤ y))
