-- The contract of `numerators`: what every place is worth is fixed, and so is the number of entries formed. Assumes nothing.
use Rattle.std.specs.Prelude.{◌≡◌, List, ℕ, ◌+◌, ◌*◌, ◌^◌, ◌≤◌, ℤ, pos, nat_abs, length, get_or}
use Rattle.limbs.specs.Limbs.{worth}
use Rattle.request.specs.declared.Head.{Head}
use Rattle.request.specs.Head.{most_points, degree}
use Rattle.request.specs.Request.{Request}
use Rattle.net.specs.Composed.{numerator}
use Rattle.net.specs.runs.Tree.{tree, entries}

-- how many places there are: 0 to the greatest L
abbrev pub places : ℕ
places = most_points

-- each place is worth its numerator, which is 0 past L, and every limb is far below 2^63
pub record Summed (rq : Request) (sums : List ℤ) : Type 0 where
  pub long : length sums ≡ 2 * places
  pub each : (R : ℕ) → worth sums R ≡ numerator rq R
  pub small : (k : ℕ) → nat_abs (get_or sums k (pos 0)) ≤ 2 ^ 56

-- forms 1 and 3: as many entries were formed as the tree of runs has (rule Counting; 02, ticket 7)
pub record Formed (h : Head) (n : ℕ) : Type 0 where
  pub curve : h.form ≡ 1 → n ≡ entries 1 (tree (degree h) 0 (h.N + 1))
  pub triangle : (h.form ≡ 1 → ⊥) → (h.form ≡ 2 → ⊥) → n ≡ entries 2 (tree (degree h) 0 (h.N + 1))
