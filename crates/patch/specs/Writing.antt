-- From the sums in their limbs to the two arrays: each place by its index. Assumes nothing.
use Rattle.std.specs.Prelude.{◌≡◌, List, map, ℕ, ◌+◌, ◌*◌, ◌^◌, ◌≤◌, ℤ, pos, nat_abs, length, get_or, set}
use Rattle.whole.specs.Round.{nearest}
use Rattle.limbs.specs.Limbs.{worth}
use Rattle.patch_net.specs.Patch.{most_degree, places, Index, indices}
use Rattle.patch_net.specs.Composed.{multinomial}
use Rattle.patch_net.specs.Afterwards.{afterwards}
use Rattle.patch_walk.specs.PatchTerms.{key_of}
use Rattle.patch.specs.patch_sums.Contract.{most_longest, limb_count}

-- the numerator of an index, and the point that it gives over its multinomial times 1024^n
abbrev pub exact_at : List ℤ → Index → ℤ
exact_at sums t = worth sums (key_of t)

abbrev pub point_at : List ℤ → ℕ → Index → ℤ
point_at sums n t = nearest (worth sums (key_of t)) (multinomial t * 1024 ^ n)

-- when an index has a travel for a point: its numerator is at most its denominator times the greatest travel
pub record Fits (sums : List ℤ) (n : ℕ) (t : Index) : Type 0 where
  pub whole : t.i + (t.j + t.k) ≤ most_longest
  pub few : n ≤ most_degree
  pub long : length sums ≡ limb_count
  pub small : (k : ℕ) → nat_abs (get_or sums k (pos 0)) ≤ 2 ^ 56
  pub within : nat_abs (exact_at sums t) ≤ multinomial t * 1024 ^ n * 4096

-- when every index of degree L does
pub record Fitting (sums : List ℤ) (n L count : ℕ) : Type 0 where
  pub all : count ≡ places L
  pub each : (t : Index) → t.i + (t.j + t.k) ≡ L → Fits sums n t

-- what stands at an index is written to place R of both arrays
pub record Put (sums : List ℤ) (n : ℕ) (t : Index) (R : ℕ) (exact points exact' points' : List ℤ) : Type 0 where
  pub exact_is : exact' ≡ set exact R (exact_at sums t)
  pub points_is : points' ≡ set points R (point_at sums n t)

-- and what stands at each of the first `count` indices of degree L
pub record Wrote (sums : List ℤ) (n L count : ℕ) (exact points exact' points' : List ℤ) : Type 0 where
  pub exact_is : exact' ≡ afterwards count (map (exact_at sums) (indices L)) exact
  pub points_is : points' ≡ afterwards count (map (point_at sums n) (indices L)) points
