-- Worked patches, reckoned apart from this program by expanding the product of the Bernstein forms, with worked readings and refusals.
-- They are without symmetry; the corner case (3, 3) is in crate worked. Each array is lent with one place more than is needed. Assumes
-- nothing.
use Rattle.std.specs.Prelude.{◌≡◌, refl, List, [], ◌∷◌, ◌++◌, map, ℕ, ◌+◌, ℤ, pos, neg_ℤ, length, replicate}
use Rattle.std.proofs.Math.IntN.{one, pow}
use Rattle.whole.specs.Sum.{sum_over}
use Rattle.whole.specs.Choose.{choose}
use Rattle.whole.specs.Round.{half_up, on_side_of, nearest}
use Rattle.request.specs.units.Bounds.{beyond_travel, beyond_path}
use Rattle.request.specs.declared.Answer.{Answer}
use Rattle.request.specs.Cascade.{first, refused, decided}
use Rattle.request.specs.Refusal.{least, value_place, parameter_place, uneven, is_number}
use Rattle.net.specs.Net.{row_start}
use Rattle.net.specs.Blossom.{step, blossom}
use Rattle.net.specs.Reading.{bernstein, bernstein_triangle}
use Rattle.patch_net.specs.Patch.{Patch, patch_of, longest, places, row, rows, indices, net_of, path_number}
use Rattle.patch_net.specs.Refusal.{not_degree, not_surface, not_path, not_room, not_value, not_parameter, balance_place, not_balance, refusals, accepted, answer}
use Rattle.patch_net.specs.Composed.{multinomial, over_indices, over_choices, total, weight, arguments, numerator, denominator, point}
use Rattle.patch_net.specs.Afterwards.{afterwards, exact_after, points_after}
use Rattle.patch_net.specs.Reading.{drawn, coordinate, surface_read}

-- whole numbers from 0 up, and one below 0
unfoldable pub naturals : List ℕ → List ℤ
naturals l = map pos l

unfoldable pub below : ℕ → ℤ
below n = neg_ℤ (pos n)

unfoldable pub patch : ℕ → ℕ → List ℤ → List ℤ → Patch
patch = patch_of

-- ---- the patches
pub record Worked : Type 0 where
  pub asked : Patch
  pub numerators : List ℤ
  pub points : List ℤ

unfoldable pub worked : Patch → List ℤ → List ℤ → Worked
worked asked numerators points = record { asked = asked; numerators = numerators; points = points }

unfoldable pub patches : List Worked
patches =
    -- a plane piece: x goes with i, y with j, z with k, and so do the places
    worked (patch 1 1 (naturals (10 ∷ 20 ∷ 30 ∷ []))
    (naturals (512 ∷ 256 ∷ 256 ∷ 0 ∷ 1000 ∷ 24 ∷ 1024 ∷ 0 ∷ 0 ∷ [])))
    (naturals (23040 ∷ 20240 ∷ 30720 ∷ []))
    (naturals (23 ∷ 20 ∷ 30 ∷ []))
    -- degrees (2, 1)
    ∷ worked (patch 2 1 (pos 5 ∷ below 7 ∷ pos 11 ∷ pos 13 ∷ below 17 ∷ pos 190 ∷ [])
    (naturals (100 ∷ 200 ∷ 724 ∷ 700 ∷ 24 ∷ 300 ∷ 0 ∷ 1024 ∷ 0 ∷ [])))
    (pos 4136080 ∷ pos 36909536 ∷ pos 98344336 ∷ below 9355264 ∷ below 28131328 ∷ pos 11534336 ∷ [])
    (pos 4 ∷ pos 18 ∷ pos 94 ∷ below 4 ∷ below 13 ∷ pos 11 ∷ [])
    -- degrees (1, 2)
    ∷ worked (patch 1 2 (below 400 ∷ pos 350 ∷ pos 77 ∷ [])
    (naturals (0 ∷ 0 ∷ 1024 ∷ 1000 ∷ 20 ∷ 4 ∷ 300 ∷ 300 ∷ 424 ∷ 512 ∷ 0 ∷ 512 ∷ 7 ∷ 900 ∷ 117 ∷ 1024 ∷ 0 ∷ 0 ∷ [])))
    (below 409600 ∷ pos 164800 ∷ below 41500 ∷ below 330752 ∷ pos 537478 ∷ pos 78848 ∷ [])
    (below 400 ∷ pos 80 ∷ below 41 ∷ below 162 ∷ pos 262 ∷ pos 77 ∷ [])
    -- degrees (2, 2)
    ∷ worked (patch 2 2 (pos 5 ∷ below 60 ∷ pos 300 ∷ pos 17 ∷ pos 2000 ∷ below 9 ∷ [])
    (naturals (700 ∷ 200 ∷ 124 ∷ 50 ∷ 374 ∷ 600 ∷ 300 ∷ 24 ∷ 700 ∷ 512 ∷ 0 ∷ 512 ∷ 7 ∷ 900 ∷ 117 ∷ 1024 ∷ 0 ∷ 0 ∷ [])))
    (pos 567642080 ∷ pos 2253439360 ∷ pos 678464880 ∷ pos 874163200 ∷ pos 35736800 ∷ pos 811679744 ∷ pos 8268141344 ∷ pos 1425483040 ∷ pos 2039672480
    ∷ pos 842072064 ∷ pos 10266132480 ∷ pos 1139785000 ∷ pos 16777216 ∷ pos 7380688896 ∷ below 9437184 ∷ [])
    (pos 541 ∷ pos 537 ∷ pos 108 ∷ pos 208 ∷ pos 34 ∷ pos 194 ∷ pos 657 ∷ pos 113 ∷ pos 486 ∷ pos 134 ∷ pos 816 ∷ pos 181 ∷ pos 4 ∷ pos 1760 ∷ below 9
    ∷ [])
    ∷ []

-- what a lent place holds that must stay
unfoldable pub mark : ℤ
mark = below 7

-- what the definitions give: the answer and both arrays afterwards
unfoldable pub given : Worked → Answer × List ℤ × List ℤ
given w =
    let room = length w.points + 1 in
    let lent = replicate room mark in
    (answer w.asked room room, exact_after w.asked lent lent, points_after w.asked lent lent)

unfoldable pub stated : Worked → Answer × List ℤ × List ℤ
stated w = (record { number = 0; place = 0; count = length w.points }, w.numerators ++ (mark ∷ []), w.points ++ (mark ∷ []))

pub as-stated : map given patches ≡ map stated patches
unfolding naturals below patch worked patches mark given stated longest places row rows indices net_of path_number row_start
    not_degree not_surface not_path not_room not_value not_parameter balance_place not_balance refusals accepted answer first refused decided least
    value_place parameter_place uneven is_number beyond_travel beyond_path multinomial over_indices over_choices total weight arguments numerator
    denominator point afterwards exact_after points_after step blossom nearest on_side_of half_up sum_over choose
as-stated = refl

-- ---- read at (2, 3, 5)/10: the surface at the domain's place times 1024^n·10^L, and the drawn patch times 10^L
unfoldable pub at_place : Worked → ℤ × ℤ
at_place w = (surface_read w.asked 2 3 5, drawn (longest w.asked) w.points 2 3 5)

pub read-as-stated : map at_place patches
    ≡ (pos 237360, pos 235) ∷ (pos 1325940800, pos 1294) ∷ (below 7908760, below 7757) ∷ (pos 4073818338320, pos 3884587) ∷ []
unfolding naturals below patch worked patches at_place longest net_of path_number row_start bernstein bernstein_triangle drawn coordinate
    surface_read sum_over choose pow one
read-as-stated = refl

-- ---- the refusals in their order, each also where the next one holds: a patch, both rooms, and the number and the place
pub record Refused : Type 0 where
  pub asked : Patch
  pub exact_room : ℕ
  pub points_room : ℕ
  pub number : ℕ
  pub place : ℕ

unfoldable pub refusal : Patch → ℕ → ℕ → ℕ → ℕ → Refused
refusal asked exact_room points_room number place = record { asked = asked; exact_room = exact_room; points_room = points_room; number = number; place = place }

unfoldable pub refusals_worked : List Refused
refusals_worked =
    refusal (patch 4 0 [] []) 0 0 2 0
    ∷ refusal (patch 0 4 [] []) 0 0 2 0
    ∷ refusal (patch 1 1 (naturals (1 ∷ 2 ∷ [])) []) 0 0 3 0
    ∷ refusal (patch 1 1 (naturals (1 ∷ 2 ∷ 4097 ∷ [])) (naturals (1 ∷ 2 ∷ 3 ∷ []))) 0 0 4 0
    ∷ refusal (patch 1 1 (naturals (1 ∷ 2 ∷ 4097 ∷ [])) (naturals (512 ∷ 256 ∷ 256 ∷ 0 ∷ 1000 ∷ 25 ∷ 1025 ∷ 0 ∷ 0 ∷ []))) 3 2 5 0
    ∷ refusal (patch 1 1 (naturals (1 ∷ 2 ∷ 4097 ∷ [])) (naturals (512 ∷ 256 ∷ 256 ∷ 0 ∷ 1000 ∷ 25 ∷ 1025 ∷ 0 ∷ 0 ∷ []))) 3 3 6 2
    ∷ refusal (patch 1 1 (naturals (1 ∷ 2 ∷ 3 ∷ [])) (naturals (512 ∷ 256 ∷ 256 ∷ 0 ∷ 1000 ∷ 25 ∷ 1025 ∷ 0 ∷ 0 ∷ []))) 3 3 7 6
    ∷ refusal (patch 1 1 (naturals (1 ∷ 2 ∷ 3 ∷ [])) (naturals (512 ∷ 256 ∷ 256 ∷ 0 ∷ 1000 ∷ 25 ∷ 1024 ∷ 0 ∷ 1 ∷ []))) 3 3 8 1
    ∷ []

pub refused-as-stated : map (λ (r : Refused). answer r.asked r.exact_room r.points_room) refusals_worked
    ≡ map (λ (r : Refused). refused r.number r.place) refusals_worked
unfolding naturals patch refusal refusals_worked longest places not_degree not_surface not_path not_room not_value not_parameter balance_place
    not_balance refusals accepted answer first refused decided least value_place parameter_place uneven is_number beyond_travel beyond_path
refused-as-stated = refl
