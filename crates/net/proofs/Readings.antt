-- Rides read by hand, one of each form, so that the definitions of Reading are seen to say what they should: F(G(k/q))
-- times 1024^r·q^L, and for P6 the drawn curve, which has nothing to round. Assumes nothing.
use mathlib.Core.Path.{◌≡◌, refl}
use mathlib.Core.List.{List, [], ◌∷◌, map}
use Prim.Native.Nat.{ℕ, ◌*◌, ◌^◌}
use lib.IntN.{pos, one, pow}
use Rattle.whole.specs.Sum.{sum_over}
use Rattle.whole.specs.Choose.{choose}
use Rattle.request.specs.Head.{by_form, numbers}
use Rattle.request.specs.Request.{Request}
use Rattle.net.specs.Net.{row_start, place_of, net_of, number_at, path_number}
use Rattle.net.specs.Reading.{bernstein, bernstein_triangle, drawn, coordinate, scale, surface_read}

request : ℕ → ℕ → ℕ → ℕ → List ℕ → List ℕ → Request
request form first second N surface path =
    record { head = record { form = form; first = first; second = second; N = N }; surface = map pos surface; path = map pos path }

-- P6 is 600·t^2: 150 at 1/2, and the drawn curve with it
squared : surface_read (request 1 2 0 2 (0 ∷ 0 ∷ 600 ∷ []) (0 ∷ 512 ∷ 1024 ∷ [])) 1 2 ≡ pos (150 * (1024 ^ 2 * 2 ^ 4))
unfolding request surface_read coordinate scale bernstein by_form numbers net_of place_of number_at path_number sum_over choose pow one
squared = refl

squared-drawn : drawn 4 (map pos (0 ∷ 0 ∷ 100 ∷ 300 ∷ 600 ∷ [])) 1 2 ≡ pos (150 * 2 ^ 4)
unfolding drawn bernstein sum_over choose pow one
squared-drawn = refl

-- P8 is 400·t·(1 − t): 75 at 1/4
crossed : surface_read (request 2 1 1 1 (0 ∷ 0 ∷ 0 ∷ 400 ∷ []) (0 ∷ 1024 ∷ 1024 ∷ 0 ∷ [])) 1 4 ≡ pos (75 * (1024 ^ 2 * 4 ^ 2))
unfolding request surface_read coordinate scale bernstein by_form numbers net_of place_of number_at path_number sum_over choose pow one
crossed = refl

-- 400·x·y + 48·x^2 from x = 1 to y = 1: at 1/4 it is 75 + 27
cornered : surface_read (request 3 2 0 1 (0 ∷ 0 ∷ 0 ∷ 0 ∷ 200 ∷ 48 ∷ []) (1024 ∷ 0 ∷ 0 ∷ 0 ∷ 1024 ∷ 0 ∷ [])) 1 4 ≡ pos (102 * (1024 ^ 2 * 4 ^ 2))
unfolding request surface_read coordinate scale bernstein bernstein_triangle by_form numbers net_of place_of row_start number_at path_number sum_over choose pow one
cornered = refl
