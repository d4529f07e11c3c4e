-- The worked rides of specs/Rides.antt all come out as they are stated: the long ones by the walk. Assumes nothing.
use Rattle.std.specs.Prelude.{◌≡◌, refl, [], ◌∷◌, ◌++◌, map, ℕ, ◌+◌, ℤ}
use Rattle.std.proofs.Common.{sym, ◌∙◌}
use Rattle.std.proofs.lemmas.List.{map-append}
use Rattle.whole.specs.Choose.{choose}
use Rattle.whole.specs.Round.{half_up, on_side_of, nearest}
use Rattle.two_words.specs.Words.{high_word, low_word}
use Rattle.request.specs.units.Bounds.{beyond_travel, beyond_path, stale}
use Rattle.request.specs.declared.Answer.{Answer}
use Rattle.request.specs.Head.{by_form, degree, longest, surface_count, path_count, numbers}
use Rattle.request.specs.Request.{Request}
use Rattle.request.specs.Cascade.{first, refused, decided}
use Rattle.request.specs.Refusal.{refusals, answer, accepted, least, not_kind, not_degree, not_surface, not_path, not_room}
use Rattle.request.specs.Refusal.{not_value, not_parameter, not_balance, value_place, parameter_place, balance_place, uneven, is_number}
use Rattle.net.specs.Net.{row_start, place_of, net_of, number_at, path_number}
use Rattle.net.specs.Blossom.{along_u, along_v, step}
use Rattle.net.specs.Composed.{numerator, denominator, point}
use Rattle.net.specs.runs.Walk.{walk}
use Rattle.net.specs.runs.Ride.{leaf, below as runs_below, path_term, path_terms}
use Rattle.net.proofs.runs.Ride.{curve-walk, tensor-walk}
use Rattle.compose.specs.Afterwards.{list_below, afterwards, Arrays, arrays, rooms_of, high_after, low_after, points_after}
use Rattle.demands.specs.Rides.{Ride, naturals, below, curve, tensor, ride, document_rides, own_rides, most_ride, least_ride, long_ride, long_rides, rides, mark, low_mark, lent_for, worked, stated, short-stated}

-- the long ones, whose choices are thousands, by the walk over the runs of path points, which is the same sum
-- (Rattle.net.proofs.runs.Ride)
unfoldable worked_by : Ride → (ℕ → ℤ) → Answer × Arrays
worked_by r n =
    let rq = r.request in
    let lent = lent_for r in
    let a = answer rq 0 (rooms_of lent) in (
      a,
      arrays (afterwards a.count (λ R. high_word (n R)) lent.high) (afterwards a.count (λ R. low_word (n R)) lent.low)
          (afterwards a.count (λ R. nearest (n R) (denominator rq R)) lent.points),
    )

worked-by : (r : Ride) (n : ℕ → ℤ) → ((R : ℕ) → numerator r.request R ≡ n R) → worked r ≡ worked_by r n
unfolding worked worked_by high_after low_after points_after point
worked-by r n same = λ t. worked_by r (λ R. same R t)

unfoldable curve_walk : Request → ℕ → ℤ
curve_walk rq R =
    let h = rq.head in
    walk (path_terms h.N (λ c. along_u (path_number rq c 0))) h.first h.first (leaf R) 0 (net_of rq)

unfoldable tensor_walk : Request → ℕ → ℤ
tensor_walk rq R =
    let h = rq.head in
    let later = walk (path_terms h.N (λ c. along_v (path_number rq c 1))) h.second h.second (leaf R) in
    walk (path_terms h.N (λ c. along_u (path_number rq c 0))) h.first h.first later 0 (net_of rq)

by-curve : (r : Ride) → r.request.head.form ≡ 1 → worked r ≡ worked_by r (curve_walk r.request)
unfolding curve_walk
by-curve r f = worked-by r (curve_walk r.request) (λ R. curve-walk r.request R f)

by-tensor : (r : Ride) → r.request.head.form ≡ 2 → worked r ≡ worked_by r (tensor_walk r.request)
unfolding tensor_walk
by-tensor r f = worked-by r (tensor_walk r.request) (λ R. tensor-walk r.request R f)

most_ride-form : most_ride.request.head.form ≡ 1
unfolding most_ride ride curve
most_ride-form = refl

least_ride-form : least_ride.request.head.form ≡ 1
unfolding least_ride ride curve
least_ride-form = refl

long_ride-form : long_ride.request.head.form ≡ 2
unfolding long_ride ride tensor
long_ride-form = refl

most-stated : worked_by most_ride (curve_walk most_ride.request) ≡ stated most_ride
unfolding most_ride ride naturals below curve mark low_mark lent_for worked_by curve_walk stated walk path_terms path_term leaf runs_below
    high_after low_after points_after high_word low_word afterwards list_below answer refusals first decided refused accepted least not_kind
    not_degree not_surface not_path not_room not_value not_parameter not_balance value_place parameter_place balance_place beyond_travel
    beyond_path stale uneven is_number by_form degree longest surface_count path_count numbers row_start place_of net_of
    number_at path_number step denominator nearest on_side_of half_up choose
most-stated = refl

least-stated : worked_by least_ride (curve_walk least_ride.request) ≡ stated least_ride
unfolding least_ride ride naturals below curve mark low_mark lent_for worked_by curve_walk stated walk path_terms path_term leaf runs_below
    high_after low_after points_after high_word low_word afterwards list_below answer refusals first decided refused accepted least not_kind
    not_degree not_surface not_path not_room not_value not_parameter not_balance value_place parameter_place balance_place beyond_travel
    beyond_path stale uneven is_number by_form degree longest surface_count path_count numbers row_start place_of net_of
    number_at path_number step denominator nearest on_side_of half_up choose
least-stated = refl

long-stated : worked_by long_ride (tensor_walk long_ride.request) ≡ stated long_ride
unfolding long_ride ride naturals below tensor mark low_mark lent_for worked_by tensor_walk stated walk path_terms path_term leaf runs_below
    high_after low_after points_after high_word low_word afterwards list_below answer refusals first decided refused accepted least not_kind
    not_degree not_surface not_path not_room not_value not_parameter not_balance value_place parameter_place balance_place beyond_travel
    beyond_path stale uneven is_number by_form degree longest surface_count path_count numbers row_start place_of net_of
    number_at path_number step denominator nearest on_side_of half_up choose
long-stated = refl

pub as-stated : map worked rides ≡ map stated rides
unfolding rides long_rides
as-stated =
    map-append worked (document_rides ++ own_rides) _
    ∙ (λ t. short-stated t ++ most t ∷ least t ∷ long t ∷ [])
    ∙ sym (map-append stated (document_rides ++ own_rides) _)
  where
    most : worked most_ride ≡ stated most_ride
    most = by-curve most_ride most_ride-form ∙ most-stated

    least : worked least_ride ≡ stated least_ride
    least = by-curve least_ride least_ride-form ∙ least-stated

    long : worked long_ride ≡ stated long_ride
    long = by-tensor long_ride long_ride-form ∙ long-stated
