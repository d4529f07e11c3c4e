-- The nearest whole number by a quotient and what it leaves: what the function computes is what the definition says, for
-- either outcome of its test. Assumes nothing.
use mathlib.Core.Path.{◌≡◌, refl, sym, ap}
use Prim.Native.Nat.{ℕ, ◌+◌, ◌-◌, ◌/◌, ◌%◌, ◌≤◌, ◌<◌}
use native.Mathlib.Nat.{div-add-mod, mod-lt, mul-le-mul_right, add-zero}
use native.Mathlib.Decide.{dec_le}
use native.Mathlib.Omega.{arith}
use lib.IntN.{ℤ, pos, negsuc, nat_abs}
use Rattle.whole.specs.Round.{half_up, on_side_of, nearest, Divided}
use Rattle.whole.proofs.Bound.{nat_abs-neg}
use Rattle.whole.proofs.Rounding.{half-up-only}

module _ (n : ℤ) (d : ℕ) (q : ℤ) (left : ℕ) (r : Divided n d q left) where
  -- half or more takes one more, less than half none; and there is room for it
  module _ (up : ℕ) (half : d - left ≤ left → up ≡ 1) (less : left < d - left → up ≡ 0) where
    pub room : nat_abs q + up ≤ nat_abs n
    room = go (dec_le (d - left) left)
      where
        go : Dec (d - left ≤ left) → nat_abs q + up ≤ nat_abs n
        go (yes l) = rw (half l) (omega (arith, mul-le-mul_right (nat_abs q) r.some))
        go (no l) = rw (less (omega arith)) (omega (arith, mul-le-mul_right (nat_abs q) r.some))

    pub goes-there : on_side_of n (nat_abs q + up) ≡ nearest n d
    unfolding nearest
    goes-there = go (dec_le (d - left) left)
      where
        go : Dec (d - left ≤ left) → on_side_of n (nat_abs q + up) ≡ on_side_of n (half_up (nat_abs n) d)
        go (yes l) = rw (half l) (ap (on_side_of n) (half-up-only (nat_abs n) d (nat_abs q + 1) (omega arith)))
        go (no l) = rw (less (omega arith), add-zero (nat_abs q)) (ap (on_side_of n) (half-up-only (nat_abs n) d (nat_abs q) (omega arith)))

pub side-size : (n : ℤ) (x : ℕ) → nat_abs (on_side_of n x) ≡ x
unfolding on_side_of
side-size (pos a) x = refl
side-size (negsuc a) x = nat_abs-neg (pos x)

-- by division
pub by-division : (n : ℤ) (d : ℕ) → 0 < d → Divided n d (on_side_of n (nat_abs n / d)) (nat_abs (on_side_of n (nat_abs n % d)))
by-division n d h =
    let q = side-size n (nat_abs n / d) in
    let s = side-size n (nat_abs n % d) in
    record {
      some = h;
      side = ap (on_side_of n) (sym q);
      parts = rw (q, s) (div-add-mod (nat_abs n) d);
      most = rw s (let l = mod-lt (nat_abs n) h in omega arith);
    }

-- where d is at least the numerator's size, all of it may be left
pub all_left : (n : ℤ) (d : ℕ) → 0 < d → nat_abs n ≤ d → Divided n d (pos 0) (nat_abs n)
unfolding on_side_of
all_left n d h m = record { some = h; side = none n; parts = omega arith; most = omega arith }
  where
    none : (n : ℤ) → pos 0 ≡ on_side_of n 0
    none (pos a) = refl
    none (negsuc a) = refl
