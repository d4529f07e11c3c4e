-- What both output arrays hold afterwards, and the contract: three equations, for every input. Assumes nothing.
use Rattle.std.specs.Prelude.{◌≡◌, List, ◌++◌, map, ℕ, ℤ, length, take, drop}
use Rattle.request.specs.declared.Answer.{Answer}
use Rattle.patch_net.specs.Patch.{Patch, longest, indices}
use Rattle.patch_net.specs.Refusal.{answer}
use Rattle.patch_net.specs.Composed.{numerator, point}

-- the first count places are written, in the order of the indices, and all later places stay; with count 0 nothing changes
unfoldable pub afterwards {ℓ} : {A : Type ℓ} → ℕ → List A → List A → List A
afterwards count values lent = take count values ++ drop count lent

unfoldable pub exact_after : Patch → List ℤ → List ℤ → List ℤ
exact_after p exact points = afterwards (answer p (length exact) (length points)).count (map (numerator p) (indices (longest p))) exact

unfoldable pub points_after : Patch → List ℤ → List ℤ → List ℤ
points_after p exact points = afterwards (answer p (length exact) (length points)).count (map (point p) (indices (longest p))) points

-- exact and points are the arrays as they were lent
pub record Patched (p : Patch) (exact points : List ℤ) (a : Answer) (exact' points' : List ℤ) : Type 0 where
  pub answered : a ≡ answer p (length exact) (length points)
  pub exact_is : exact' ≡ exact_after p exact points
  pub points_is : points' ≡ points_after p exact points
