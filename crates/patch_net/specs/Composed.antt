-- The composed patch (rule Patches on patches; document 002, theorem 1), as the literal sum over all choices, "multinomials in
-- place of binomials". Assumes nothing.
use Rattle.std.specs.Prelude.{◌≡◌, refl, cond, ◌&&◌, List, [], ◌∷◌, map, ℕ, zero, suc, ◌+◌, ◌*◌, ◌^◌, ℤ, pos, ◌*ℤ◌, eqb}
use Rattle.whole.specs.Sum.{sum_over}
use Rattle.whole.specs.Choose.{choose}
use Rattle.whole.specs.Round.{nearest}
use Rattle.net.specs.Net.{row_start}
use Rattle.net.specs.Blossom.{Argument, within, blossom}
use Rattle.patch_net.specs.Patch.{Patch, patch_of, Index, index, net_of, path_number}

-- (i+j+k)!/(i!·j!·k!), which is (i+j+k over i)·(j+k over j)
unfoldable pub multinomial : Index → ℕ
multinomial a = choose (a.i + a.j + a.k) a.i * choose (a.j + a.k) a.j

pub multinomials : map multinomial (index 0 0 3 ∷ index 0 1 2 ∷ index 1 1 1 ∷ index 4 3 2 ∷ index 3 3 3 ∷ []) ≡ 1 ∷ 3 ∷ 6 ∷ 1260 ∷ 1680 ∷ []
unfolding multinomial choose
multinomials = refl

-- the sum over all indices i + j + k = d
unfoldable pub over_indices : ℕ → (Index → ℤ) → ℤ
over_indices d F = sum_over d (λ i rest. sum_over rest (λ j k. F (index i j k)))

-- the sum of F over every choice of one domain point for each of r arguments
unfoldable pub over_choices : ℕ → ℕ → (List Index → ℤ) → ℤ
over_choices zero N F = F []
over_choices (suc r) N F = over_indices N (λ a. over_choices r N (λ rest. F (a ∷ rest)))

-- the chosen points' indices, added
unfoldable pub total : List Index → Index
total [] = index 0 0 0
total (a ∷ rest) = let t = total rest in index (a.i + t.i) (a.j + t.j) (a.k + t.k)

-- the product of their multinomials
unfoldable pub weight : List Index → ℕ
weight [] = 1
weight (a ∷ rest) = multinomial a * weight rest

-- the arguments of a choice: x, y, z of each chosen point
unfoldable pub arguments : Patch → List Index → List Argument
arguments p choice = map (λ (a : Index). within (path_number p 0 a.i a.j) (path_number p 1 a.i a.j) (path_number p 2 a.i a.j)) choice

-- of two domain points, (1, 0, 0) and (0, 0, 1), in that order
pub arguments-of : arguments (patch_of 2 1 [] (map pos (1 ∷ 2 ∷ 3 ∷ 4 ∷ 5 ∷ 6 ∷ 7 ∷ 8 ∷ 9 ∷ []))) (index 1 0 0 ∷ index 0 0 1 ∷ [])
    ≡ within (pos 7) (pos 8) (pos 9) ∷ within (pos 1) (pos 2) (pos 3) ∷ []
unfolding arguments path_number row_start
arguments-of = refl

-- the two are one index; their degrees are the same, so k need not be asked
unfoldable pub numerator : Patch → Index → ℤ
numerator p at =
    over_choices p.outer p.domain
    (λ choice. cond (eqb (total choice).i at.i && eqb (total choice).j at.j) (pos (weight choice) *ℤ blossom (arguments p choice) (net_of p)) (pos 0))

unfoldable pub denominator : Patch → Index → ℕ
denominator p at = multinomial at * 1024 ^ p.outer

unfoldable pub point : Patch → Index → ℤ
point p at = nearest (numerator p at) (denominator p at)
