-- Worked readings of composed nets, reckoned apart from this program. Assumes nothing.
use Rattle.std.specs.Prelude.{◌≡◌, refl, [], ◌∷◌, map, ◌+◌, ◌*◌, ◌^◌, ℤ, pos, nat_abs, ◌-ℤ◌, ◌*ℤ◌}
use Rattle.std.proofs.Math.IntN.{one, pow}
use Rattle.whole.specs.Sum.{sum_over, sum_to}
use Rattle.whole.specs.Choose.{choose}
use Rattle.whole.specs.Round.{half_up, on_side_of, nearest}
use Rattle.request.specs.Head.{by_form, degree, longest, numbers}
use Rattle.request.specs.Request.{Request}
use Rattle.net.specs.Net.{row_start, place_of, net_of, number_at, path_number}
use Rattle.net.specs.Blossom.{step, blossom}
use Rattle.net.specs.Composed.{over_choices, total, weight, arguments, numerator, denominator, point}
use Rattle.net.specs.Reading.{bernstein, bernstein_triangle, drawn, coordinate, scale, surface_read}
use Rattle.demands.specs.Rides.{Ride, naturals, below, curve, tensor, triangle, ride, short, own_rides}
use Rattle.tick.specs.Reading.{carried, between, lower, after, reading}

-- a ride at the moment 341/1024: its points read, and the surface at the path's place times 1024^r·1024^L
unfoldable pub at_tick : Ride → ℤ × ℤ
at_tick r = (reading r.points 341, surface_read r.request 341 1024)

-- our own rides of forms 2 and 3
pub read-as-worked : map at_tick own_rides ≡ (pos 35158183, pos 618472734214453951360) ∷ (pos 24392800, pos 429314425485368307120) ∷ []
unfolding at_tick own_rides ride short naturals below tensor triangle by_form numbers row_start place_of net_of number_at path_number bernstein
    bernstein_triangle coordinate scale surface_read sum_over choose pow one carried between lower after reading nearest on_side_of half_up
read-as-worked = refl

-- F 0, 4 along the path 128, 384, 896: the exact points 0.5, 1.5 and 3.5 become 1, 2 and 4, half a unit too much everywhere
unfoldable pub halves : Request
halves = curve 1 2 (naturals (0 ∷ 4 ∷ [])) (naturals (128 ∷ 384 ∷ 896 ∷ []))

pub halves-points : map (point halves) (0 ∷ 1 ∷ 2 ∷ []) ≡ naturals (1 ∷ 2 ∷ 4 ∷ [])
unfolding halves naturals curve by_form degree longest numbers place_of net_of number_at path_number step blossom over_choices total weight arguments
    numerator denominator point nearest on_side_of half_up sum_to sum_over choose
halves-points = refl

-- and read at 3/1024 they are beyond half a unit: 939524096 of its scale more than 65,536 times it
pub beyond-half : nat_abs (pos 2 *ℤ (pos (1024 ^ 1 * 1024 ^ 2) *ℤ reading (naturals (1 ∷ 2 ∷ 4 ∷ [])) 3 -ℤ pos 65536 *ℤ surface_read halves 3 1024))
    ≡ 65536 * (1024 ^ 1 * 1024 ^ 2) + 939524096
unfolding halves naturals curve by_form numbers place_of net_of number_at path_number bernstein coordinate scale surface_read sum_over choose pow one carried
    between lower after reading nearest on_side_of half_up
beyond-half = refl

-- of two steps the second may lose half a part: 0, 0, 2 read at 2/1024 is 1 part, and the curve half of one
pub half-a-part : nat_abs (pos 2 *ℤ (pos (1024 ^ 2) *ℤ reading (naturals (0 ∷ 0 ∷ 2 ∷ [])) 2 -ℤ pos 65536 *ℤ drawn 2 (naturals (0 ∷ 0 ∷ 2 ∷ [])) 2 1024))
    ≡ 1024 ^ 2
unfolding naturals drawn bernstein sum_over choose pow one carried between lower after reading nearest on_side_of half_up
half-a-part = refl
