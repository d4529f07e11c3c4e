-- The table of a patch's terms, and the contract of `numerators`: what the place of every index is worth is fixed. Assumes nothing.
use Rattle.std.specs.Prelude.{◌≡◌, List, ℕ, ◌+◌, ◌*◌, ◌^◌, ◌≤◌, ◌<◌, ℤ, pos, nat_abs, length, get_or}
use Rattle.limbs.specs.Limbs.{worth}
use Rattle.sums.specs.gather.Table.{key_at, weight_at, share_at}
use Rattle.patch_net.specs.Patch.{Patch, most_degree, longest, places, Index, index, index_at}
use Rattle.patch_net.specs.Composed.{multinomial, numerator}
use Rattle.patch_walk.specs.PatchTerms.{key_of}
use Rattle.patch.specs.declared.patch_sums.Place.{Place}

-- the greatest L
abbrev pub most_longest : ℕ
most_longest = most_degree * most_degree

-- two limbs for each key from 0 to that of (9, 0, 0)
abbrev pub limb_count : ℕ
limb_count = 2 * (10 * most_longest + 1)

-- an index as the code has it, and its degree
abbrev pub index_of : Place → Index
index_of at = index at.i at.j at.k

abbrev pub whole : Place → ℕ
whole at = at.i + (at.j + at.k)

-- term c is domain point c
pub record PointAt (N : ℕ) (path : List ℤ) (t : List ℕ) (c : ℕ) : Type 0 where
  pub key : key_at t c ≡ key_of (index_at N c)
  pub weight : weight_at t c ≡ multinomial (index_at N c)
  pub first : share_at t c 2 ≡ nat_abs (get_or path (3 * c) (pos 0))
  pub second : share_at t c 3 ≡ nat_abs (get_or path (3 * c + 1) (pos 0))

pub record Filled (N : ℕ) (path : List ℤ) (t : List ℕ) : Type 0 where
  pub each : (c : ℕ) → c < places N → PointAt N path t c

-- each index's place is worth its numerator, and every limb is far below 2^63
pub record Summed (p : Patch) (sums : List ℤ) : Type 0 where
  pub long : length sums ≡ limb_count
  pub each : (t : Index) → t.i + (t.j + t.k) ≡ longest p → worth sums (key_of t) ≡ numerator p t
  pub small : (k : ℕ) → nat_abs (get_or sums k (pos 0)) ≤ 2 ^ 56
