-- The terms of a patch: its domain points in their order, weighed by their multinomials, with the keys 10·i + j, which add without
-- a carry as long as L is at most 9. Assumes nothing.
use Rattle.std.specs.Prelude.{◌≡◌, refl, List, [], ◌∷◌, map, ℕ, ◌+◌, ◌*◌}
use Rattle.net.specs.Blossom.{Argument, within}
use Rattle.net.specs.runs.Terms.{Term}
use Rattle.patch_net.specs.Patch.{Patch, Index, index, indices, path_number}
use Rattle.patch_net.specs.Composed.{multinomial}

abbrev pub key_of : Index → ℕ
key_of t = 10 * t.i + t.j

-- written out where they would carry first
pub keys : map key_of (index 0 9 0 ∷ index 1 0 8 ∷ index 3 2 4 ∷ index 9 0 0 ∷ []) ≡ 9 ∷ 10 ∷ 32 ∷ 90 ∷ []
keys = refl

-- x, y, z of a domain point
abbrev pub argument_of : Patch → Index → Argument
argument_of p t = within (path_number p 0 t.i t.j) (path_number p 1 t.i t.j) (path_number p 2 t.i t.j)

unfoldable pub patch_term : Patch → Index → Term
patch_term p t = record { weight = multinomial t; key = key_of t; argument = argument_of p t }

unfoldable pub patch_terms : Patch → List Term
patch_terms p = map (patch_term p) (indices p.domain)
