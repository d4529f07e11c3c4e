-- Worked orders: 01's order (rule Order of the numbers) written out for small nets whose values name their places, and one
-- argument of each kind taken from them. Only what is in the list says where a number stands. Assumes nothing.
use Rattle.std.specs.Prelude.{◌≡◌, refl, List, [], ◌∷◌, map, ℕ, ℤ, pos}
use Rattle.request.specs.Head.{by_form, numbers}
use Rattle.request.specs.Request.{Request}
use Rattle.net.specs.Net.{Net, row_start, place_of, net_of, number_at, path_number}
use Rattle.net.specs.Blossom.{along_u, along_v, within, step}

unfoldable pub naturals : List ℕ → List ℤ
naturals l = map pos l

-- form 1, degree 2: p(i) is 7 + i; path 31, 32
unfoldable pub curve : Request
curve = record { head = record { form = 1; first = 2; second = 0; N = 1 }; surface = naturals (7 ∷ 8 ∷ 9 ∷ []); path = naturals (31 ∷ 32 ∷ []) }

-- form 2, degrees (1, 2): "b(i,j) stands at i·(m+1) + j", and b(i, j) is 10·i + j + 1; path (u, v) = (51, 52), (61, 62)
unfoldable pub tensor : Request
tensor = record {
  head = record { form = 2; first = 1; second = 2; N = 1 };
  surface = naturals (1 ∷ 2 ∷ 3 ∷ 11 ∷ 12 ∷ 13 ∷ []);
  path = naturals
      (51 ∷ 52 ∷ 61 ∷ 62 ∷ []);
}

-- form 3, degree 2: "(0,0,2), (0,1,1), (0,2,0), (1,0,1), (1,1,0), (2,0,0)", and the value at (i, j, k) is 100·i + 10·j + k;
-- path (x, y, z) = (71, 72, 73), (81, 82, 83)
unfoldable pub triangle : Request
triangle = record {
  head = record { form = 3; first = 2; second = 0; N = 1 };
  surface = naturals (2 ∷ 11 ∷ 20 ∷ 101 ∷ 110 ∷ 200 ∷ []);
  path = naturals (71 ∷ 72 ∷ 73 ∷ 81 ∷ 82 ∷ 83 ∷ []);
}

-- a net's values at places (i, j), and a path's numbers (c, t)
unfoldable pub values_at : Net → List (ℕ × ℕ) → List ℤ
values_at p places = map (λ (place : ℕ × ℕ). p place.0 place.1) places

pub values-stand : (values_at (net_of curve) ((0, 0) ∷ (1, 0) ∷ (2, 0) ∷ []) ≡ naturals (7 ∷ 8 ∷ 9 ∷ []))
    × (values_at (net_of tensor) ((0, 0) ∷ (0, 1) ∷ (0, 2) ∷ (1, 0) ∷ (1, 1) ∷ (1, 2) ∷ []) ≡ naturals (1 ∷ 2 ∷ 3 ∷ 11 ∷ 12 ∷ 13 ∷ []))
    × (values_at (net_of triangle) ((0, 0) ∷ (0, 1) ∷ (0, 2) ∷ (1, 0) ∷ (1, 1) ∷ (2, 0) ∷ []) ≡ naturals (2 ∷ 11 ∷ 20 ∷ 101 ∷ 110 ∷ 200 ∷ []))
unfolding naturals values_at curve tensor triangle by_form row_start place_of net_of
values-stand = (refl, refl, refl)

pub numbers-stand : (values_at (path_number curve) ((0, 0) ∷ (1, 0) ∷ []) ≡ naturals (31 ∷ 32 ∷ []))
    × (values_at (path_number tensor) ((0, 0) ∷ (0, 1) ∷ (1, 0) ∷ (1, 1) ∷ []) ≡ naturals (51 ∷ 52 ∷ 61 ∷ 62 ∷ []))
    × (values_at (path_number triangle) ((0, 0) ∷ (0, 1) ∷ (0, 2) ∷ (1, 0) ∷ (1, 1) ∷ (1, 2) ∷ []) ≡ naturals (71 ∷ 72 ∷ 73 ∷ 81 ∷ 82 ∷ 83 ∷ []))
unfolding naturals values_at curve tensor triangle by_form numbers number_at path_number
numbers-stand = (refl, refl, refl)

-- one argument, read at (0, 0): i goes with u, 1023·1 + 1·11; j with v, 1023·1 + 1·2; x with i, y with j, z with k,
-- 3·101 + 5·11 + 7·2
pub arguments-go : (step (along_u (pos 1)) (net_of tensor) 0 0 ≡ pos 1034)
    × (step (along_v (pos 1)) (net_of tensor) 0 0 ≡ pos 1025)
    × (step (within (pos 3) (pos 5) (pos 7)) (net_of triangle) 0 0 ≡ pos 372)
unfolding naturals tensor triangle by_form row_start place_of net_of step
arguments-go = (refl, refl, refl)
