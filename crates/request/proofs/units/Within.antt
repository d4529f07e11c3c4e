-- A number that is not beyond its bounds is within them, and a travel within them is not beyond: what callers take from the
-- tests. Assumes nothing.
use mathlib.Core.Path.{◌≡◌, refl, ap}
use mathlib.Core.Bool.{Bool, true, false, ◌||◌}
use Prim.Native.Nat.{◌≤◌}
use native.Mathlib.Omega.{arith}
use lib.IntN.{ℤ, pos, negsuc, neg_ℤ, nat_abs}
use lib.Dec.{ltb}
use borrow.Author.Tests.{le-ltb, ltb-false}
use Rattle.whole.proofs.Bound.{nat_abs-neg}
use Rattle.request.specs.units.Bounds.{beyond_travel, beyond_path, path_one, most}

pub travel-within : (z : ℤ) → beyond_travel z ≡ false → nat_abs z ≤ most
unfolding beyond_travel
travel-within z e = ltb-false most (nat_abs z) e

pub within-travel : (z : ℤ) → nat_abs z ≤ most → beyond_travel z ≡ false
unfolding beyond_travel
within-travel z m = le-ltb most (nat_abs z) m

-- the bounds of a travel are those of its size
pub beyond-neg : (z : ℤ) → beyond_travel (neg_ℤ z) ≡ beyond_travel z
unfolding beyond_travel
beyond-neg z = ap (ltb most) (nat_abs-neg z)

-- a path number is a natural number, at most one
pub record IsPath (z : ℤ) : Type 0 where
  pub size : z ≡ pos (nat_abs z)
  pub most : nat_abs z ≤ path_one

right-false : (a b : Bool) → (a || b) ≡ false → b ≡ false
right-false true b e = cc
right-false false b e = e

pub path-within : (z : ℤ) → beyond_path z ≡ false → IsPath z
unfolding beyond_path
path-within (pos n) e = record { size = refl; most = ltb-false path_one n (right-false (ltb n 0) (ltb path_one n) e) }
path-within (negsuc n) e = record { size = cc; most = ltb-false path_one _ (cc) }

pub zero-within : IsPath (pos 0)
zero-within = record { size = refl; most = omega arith }
