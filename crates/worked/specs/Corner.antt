-- The corner case of the patches, reckoned apart from this program; the arrays are lent as for the others (crate patch_net, `Worked.antt`).
-- Assumes nothing.
use Rattle.std.specs.Prelude.{◌≡◌, refl, List, [], ◌∷◌, map, pos, replicate}
use Rattle.whole.specs.Sum.{sum_over}
use Rattle.whole.specs.Choose.{choose}
use Rattle.whole.specs.Round.{half_up, on_side_of, nearest}
use Rattle.request.specs.units.Bounds.{beyond_travel, beyond_path}
use Rattle.request.specs.Cascade.{first, refused, decided}
use Rattle.request.specs.Refusal.{least, value_place, parameter_place, uneven, is_number}
use Rattle.net.specs.Net.{row_start}
use Rattle.net.specs.Blossom.{step, blossom}
use Rattle.patch_net.specs.Patch.{Patch, longest, places, row, rows, indices, net_of, path_number}
use Rattle.patch_net.specs.Refusal.{not_degree, not_surface, not_path, not_room, not_value, not_parameter, balance_place, not_balance, refusals, accepted, answer}
use Rattle.patch_net.specs.Composed.{multinomial, over_indices, over_choices, total, weight, arguments, numerator, denominator, point}
use Rattle.patch_net.specs.Afterwards.{afterwards, exact_after, points_after}
use Rattle.patch_net.specs.Worked.{Worked, naturals, below, patch, worked, mark, given, stated}

-- the corner case (3, 3): all values 4096, ten domain points; every exact point is 4096, so a numerator is its multinomial times 2^42
unfoldable pub corner : Patch
corner = patch 3 3 (replicate 10 (pos 4096))
    (naturals (0 ∷ 57 ∷ 967 ∷ 41 ∷ 295 ∷ 688 ∷ 82 ∷ 533 ∷ 409 ∷ 123 ∷ 771 ∷ 130 ∷ 300 ∷ 38 ∷ 686 ∷ 341 ∷ 276 ∷ 407 ∷ 382 ∷ 514 ∷ 128 ∷ 600 ∷ 19 ∷ 405
    ∷ 641 ∷ 257 ∷ 126 ∷ 900 ∷ 0 ∷ 124 ∷ []))

unfoldable pub corners : List Worked
corners = worked corner
    (naturals (4398046511104 ∷ 39582418599936 ∷ 158329674399744 ∷ 369435906932736 ∷ 554153860399104 ∷ 554153860399104 ∷ 369435906932736
    ∷ 158329674399744 ∷ 39582418599936 ∷ 4398046511104 ∷ 39582418599936 ∷ 316659348799488 ∷ 1108307720798208 ∷ 2216615441596416 ∷ 2770769301995520
    ∷ 2216615441596416 ∷ 1108307720798208 ∷ 316659348799488 ∷ 39582418599936 ∷ 158329674399744 ∷ 1108307720798208 ∷ 3324923162394624
    ∷ 5541538603991040 ∷ 5541538603991040 ∷ 3324923162394624 ∷ 1108307720798208 ∷ 158329674399744 ∷ 369435906932736 ∷ 2216615441596416
    ∷ 5541538603991040 ∷ 7388718138654720 ∷ 5541538603991040 ∷ 2216615441596416 ∷ 369435906932736 ∷ 554153860399104 ∷ 2770769301995520
    ∷ 5541538603991040 ∷ 5541538603991040 ∷ 2770769301995520 ∷ 554153860399104 ∷ 554153860399104 ∷ 2216615441596416 ∷ 3324923162394624
    ∷ 2216615441596416 ∷ 554153860399104 ∷ 369435906932736 ∷ 1108307720798208 ∷ 1108307720798208 ∷ 369435906932736 ∷ 158329674399744
    ∷ 316659348799488 ∷ 158329674399744 ∷ 39582418599936 ∷ 39582418599936 ∷ 4398046511104 ∷ []))
    (replicate 55 (pos 4096)) ∷ []

pub as-stated : map given corners ≡ map stated corners
unfolding naturals below patch worked corner corners mark given stated longest places row rows indices net_of path_number row_start
    not_degree not_surface not_path not_room not_value not_parameter balance_place not_balance refusals accepted answer first refused decided least
    value_place parameter_place uneven is_number beyond_travel beyond_path multinomial over_indices over_choices total weight arguments numerator
    denominator point afterwards exact_after points_after step blossom nearest on_side_of half_up sum_over choose
as-stated = refl
