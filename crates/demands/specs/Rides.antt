-- "Rides to reckon by hand" (rule Worked rides): P1 to P12 of 01, with the points of P4 as in 02, ticket 2, and rides of
-- our own; one table and one statement over the definitions. The three arrays are lent with one place more than is needed, so
-- that the row says too that the last place stays. Assumes nothing.
use Rattle.std.specs.Prelude.{◌≡◌, refl, List, [], ◌∷◌, ◌++◌, map, ℕ, ◌+◌, ℤ, pos, neg_ℤ, length, replicate}
use Rattle.std.proofs.Math.IntN.{one, pow}
use Rattle.whole.specs.Sum.{sum_over, sum_to}
use Rattle.whole.specs.Choose.{choose}
use Rattle.whole.specs.Round.{half_up, on_side_of, nearest}
use Rattle.two_words.specs.Words.{high_word, low_word}
use Rattle.request.specs.units.Bounds.{beyond_travel, beyond_path, stale}
use Rattle.request.specs.declared.Answer.{Answer}
use Rattle.request.specs.Head.{by_form, degree, longest, surface_count, path_count, numbers}
use Rattle.request.specs.Request.{Request}
use Rattle.request.specs.Cascade.{first, refused, decided}
use Rattle.request.specs.Refusal.{refusals, answer, accepted, least, not_kind, not_degree, not_surface, not_path, not_room}
use Rattle.request.specs.Refusal.{not_value, not_parameter, not_balance, value_place, parameter_place, balance_place, uneven, is_number}
use Rattle.net.specs.Net.{row_start, place_of, net_of, number_at, path_number}
use Rattle.net.specs.Blossom.{step, blossom}
use Rattle.net.specs.Composed.{over_choices, total, weight, arguments, numerator, denominator, point}
use Rattle.net.specs.Reading.{bernstein, bernstein_triangle, drawn, coordinate, scale, surface_read}
use Rattle.compose.specs.Afterwards.{list_below, afterwards, Arrays, arrays, rooms_of, high_after, low_after, points_after}

-- a request, the high words and the low words of its numerators, and its points
pub record Ride : Type 0 where
  pub request : Request
  pub high : List ℤ
  pub low : List ℕ
  pub points : List ℤ

-- whole numbers from 0 up, and one below 0
unfoldable pub naturals : List ℕ → List ℤ
naturals l = map pos l

unfoldable pub below : ℕ → ℤ
below n = neg_ℤ (pos n)

-- a request of each form: its degrees, N, the control values and the path numbers
unfoldable pub curve : ℕ → ℕ → List ℤ → List ℤ → Request
curve m N surface path = record { head = record { form = 1; first = m; second = 0; N = N }; surface = surface; path = path }

unfoldable pub tensor : ℕ → ℕ → ℕ → List ℤ → List ℤ → Request
tensor l m N surface path = record { head = record { form = 2; first = l; second = m; N = N }; surface = surface; path = path }

unfoldable pub triangle : ℕ → ℕ → List ℤ → List ℤ → Request
triangle n N surface path = record { head = record { form = 3; first = n; second = 0; N = N }; surface = surface; path = path }

unfoldable pub ride : Request → List ℤ → List ℕ → List ℤ → Ride
ride request high low points = record { request = request; high = high; low = low; points = points }

-- a ride whose numerators are their low words, each high word 0
unfoldable pub short : Request → List ℕ → List ℤ → Ride
short request low points = ride request (replicate (length low) (pos 0)) low points

unfoldable pub document_rides : List Ride
document_rides =
    -- P1
    short (curve 1 1 (naturals (0 ∷ 100 ∷ [])) (naturals (0 ∷ 1024 ∷ [])))
    (0 ∷ 102400 ∷ [])
    (naturals (0 ∷ 100 ∷ []))
    -- P2
    ∷ ride (curve 2 1 (pos 2 ∷ pos 3 ∷ below 2 ∷ []) (naturals (0 ∷ 1024 ∷ [])))
    (pos 0 ∷ pos 0 ∷ below 1 ∷ [])
    (2097152 ∷ 6291456 ∷ 18446744073707454464 ∷ [])
    (pos 2 ∷ pos 3 ∷ below 2 ∷ [])
    -- P3
    ∷ short (curve 2 1 (pos 2 ∷ pos 3 ∷ below 2 ∷ []) (naturals (0 ∷ 512 ∷ [])))
    (2097152 ∷ 5242880 ∷ 1572864 ∷ [])
    (naturals (2 ∷ 3 ∷ 2 ∷ []))
    -- P4
    ∷ ride (curve 2 1 (below 2 ∷ below 3 ∷ pos 2 ∷ []) (naturals (0 ∷ 512 ∷ [])))
    (below 1 ∷ below 1 ∷ below 1 ∷ [])
    (18446744073707454464 ∷ 18446744073704308736 ∷ 18446744073707978752 ∷ [])
    (below 2 ∷ below 3 ∷ below 2 ∷ [])
    -- P5
    ∷ short (curve 1 2 (naturals (0 ∷ 100 ∷ [])) (naturals (0 ∷ 1024 ∷ 0 ∷ [])))
    (0 ∷ 204800 ∷ 0 ∷ [])
    (naturals (0 ∷ 100 ∷ 0 ∷ []))
    -- P6
    ∷ short (curve 2 2 (naturals (0 ∷ 0 ∷ 600 ∷ [])) (naturals (0 ∷ 512 ∷ 1024 ∷ [])))
    (0 ∷ 0 ∷ 629145600 ∷ 1258291200 ∷ 629145600 ∷ [])
    (naturals (0 ∷ 0 ∷ 100 ∷ 300 ∷ 600 ∷ []))
    -- P7
    ∷ short (tensor 1 1 1 (naturals (0 ∷ 0 ∷ 0 ∷ 400 ∷ [])) (naturals (0 ∷ 0 ∷ 1024 ∷ 1024 ∷ [])))
    (0 ∷ 0 ∷ 419430400 ∷ [])
    (naturals (0 ∷ 0 ∷ 400 ∷ []))
    -- P8
    ∷ short (tensor 1 1 1 (naturals (0 ∷ 0 ∷ 0 ∷ 400 ∷ [])) (naturals (0 ∷ 1024 ∷ 1024 ∷ 0 ∷ [])))
    (0 ∷ 419430400 ∷ 0 ∷ [])
    (naturals (0 ∷ 200 ∷ 0 ∷ []))
    -- P9
    ∷ short (triangle 1 0 (naturals (10 ∷ 20 ∷ 30 ∷ [])) (naturals (512 ∷ 256 ∷ 256 ∷ [])))
    (23040 ∷ [])
    (naturals (23 ∷ []))
    -- P10
    ∷ short (curve 0 3 (naturals (7 ∷ [])) (naturals (0 ∷ 0 ∷ 0 ∷ 0 ∷ [])))
    (7 ∷ [])
    (naturals (7 ∷ []))
    -- P11
    ∷ short (curve 4 0 (naturals (0 ∷ 0 ∷ 0 ∷ 0 ∷ 4096 ∷ [])) (naturals (1024 ∷ [])))
    (4503599627370496 ∷ [])
    (naturals (4096 ∷ []))
    -- P12
    ∷ short (curve 4 3 (naturals (4096 ∷ 4096 ∷ 4096 ∷ 4096 ∷ 4096 ∷ [])) (naturals (0 ∷ 0 ∷ 1024 ∷ 1024 ∷ [])))
    (4503599627370496 ∷ 54043195528445952 ∷ 297237575406452736 ∷ 990791918021509120 ∷ 2229281815548395520 ∷ 3566850904877432832
    ∷ 4161326055690338304 ∷ 3566850904877432832 ∷ 2229281815548395520
    ∷ 990791918021509120 ∷ 297237575406452736 ∷ 54043195528445952 ∷ 4503599627370496 ∷ [])
    (naturals (4096 ∷ 4096 ∷ 4096 ∷ 4096 ∷ 4096 ∷ 4096 ∷ 4096 ∷ 4096 ∷ 4096 ∷ 4096 ∷ 4096 ∷ 4096 ∷ 4096 ∷ []))
    ∷ []

-- two rides without symmetry, which pin every order of numbers: form 2 of degrees (1, 2), and form 3 of degree 2. Their
-- numbers were reckoned by expanding F(G(t)) into powers of t in fractions and taking the coefficients of degree L, and again
-- by the second program.
unfoldable pub own_rides : List Ride
own_rides =
    short (tensor 1 2 1 (pos 3 ∷ below 40 ∷ pos 700 ∷ pos 11 ∷ pos 2000 ∷ below 5 ∷ []) (naturals (128 ∷ 896 ∷ 1000 ∷ 300 ∷ [])))
    (553578921984 ∷ 1108329889792 ∷ 2909667497984 ∷ 875248652672 ∷ [])
    (naturals (516 ∷ 344 ∷ 903 ∷ 815 ∷ []))
    ∷ short (triangle 2 2 (pos 5 ∷ below 60 ∷ pos 300 ∷ pos 17 ∷ pos 2000 ∷ below 9 ∷ [])
    (naturals (700 ∷ 200 ∷ 124 ∷ 50 ∷ 374 ∷ 600 ∷ 300 ∷ 24 ∷ 700 ∷ [])))
    (567642080 ∷ 2253439360 ∷ 678464880 ∷ 874163200 ∷ 35736800 ∷ [])
    (naturals (541 ∷ 537 ∷ 108 ∷ 208 ∷ 34 ∷ []))
    ∷ []

-- rides of the longest kinds, reckoned in the same way. All control values 4096, and all −4096, at r = 4 and N = 6: numerator R is
-- binomial(24, R)·2^52, with the high word 660 in the middle, and −661 below zero. And one without symmetry, form 2 of degrees
-- (3, 1) at N = 5, whose high words run from −10 to 7.
unfoldable pub most_ride : Ride
most_ride =
    ride (curve 4 6 (replicate 5 (pos 4096)) (naturals (0 ∷ 1 ∷ 5 ∷ 1000 ∷ 7 ∷ 300 ∷ 1024 ∷ [])))
    (pos 0 ∷ pos 0 ∷ pos 0 ∷ pos 0 ∷ pos 2 ∷ pos 10 ∷ pos 32 ∷ pos 84 ∷ pos 179 ∷ pos 319 ∷ pos 478 ∷ pos 609 ∷ pos 660 ∷
    pos 609 ∷ pos 478 ∷ pos 319 ∷ pos 179 ∷ pos 84 ∷ pos 32 ∷ pos 10 ∷ pos 2 ∷ pos 0 ∷ pos 0 ∷ pos 0 ∷ pos 0 ∷ [])
    (4503599627370496 ∷ 108086391056891904 ∷ 1242993497154256896 ∷ 9115285645797883904 ∷ 10961761493019787264 ∷
    6953557824660045824 ∷ 15870685086853627904 ∷ 9187343239835811840 ∷ 10299732347796324352 ∷ 3963167672086036480 ∷
    15168123544983830528 ∷ 7566047373982433280 ∷ 3584865303386914816 ∷ 7566047373982433280 ∷ 15168123544983830528 ∷
    3963167672086036480 ∷ 10299732347796324352 ∷ 9187343239835811840 ∷ 15870685086853627904 ∷ 6953557824660045824 ∷
    10961761493019787264 ∷ 9115285645797883904 ∷ 1242993497154256896 ∷ 108086391056891904 ∷ 4503599627370496 ∷ [])
    (replicate 25 (pos 4096))

unfoldable pub least_ride : Ride
least_ride =
    ride (curve 4 6 (replicate 5 (below 4096)) (naturals (0 ∷ 1 ∷ 5 ∷ 1000 ∷ 7 ∷ 300 ∷ 1024 ∷ [])))
    (below 1 ∷ below 1 ∷ below 1 ∷ below 1 ∷ below 3 ∷ below 11 ∷ below 33 ∷ below 85 ∷ below 180 ∷ below 320 ∷ below 479 ∷
    below 610 ∷ below 661 ∷ below 610 ∷ below 479 ∷ below 320 ∷ below 180 ∷ below 85 ∷ below 33 ∷ below 11 ∷ below 3 ∷
    below 1 ∷ below 1 ∷ below 1 ∷ below 1 ∷ [])
    (18442240474082181120 ∷ 18338657682652659712 ∷ 17203750576555294720 ∷ 9331458427911667712 ∷ 7484982580689764352 ∷
    11493186249049505792 ∷ 2576058986855923712 ∷ 9259400833873739776 ∷ 8147011725913227264 ∷ 14483576401623515136 ∷
    3278620528725721088 ∷ 10880696699727118336 ∷ 14861878770322636800 ∷ 10880696699727118336 ∷ 3278620528725721088 ∷
    14483576401623515136 ∷ 8147011725913227264 ∷ 9259400833873739776 ∷ 2576058986855923712 ∷ 11493186249049505792 ∷
    7484982580689764352 ∷ 9331458427911667712 ∷ 17203750576555294720 ∷ 18338657682652659712 ∷ 18442240474082181120 ∷ [])
    (replicate 25 (below 4096))

unfoldable pub long_ride : Ride
long_ride =
    ride (tensor 3 1 5 (below 4096 ∷ below 3500 ∷ below 2001 ∷ below 1000 ∷ pos 1500 ∷ pos 907 ∷ pos 4000 ∷ pos 4096 ∷ [])
    (naturals (3 ∷ 1000 ∷ 100 ∷ 700 ∷ 333 ∷ 512 ∷ 650 ∷ 20 ∷ 1000 ∷ 90 ∷ 1024 ∷ 511 ∷ [])))
    (below 1 ∷ below 1 ∷ below 1 ∷ below 1 ∷ below 1 ∷ below 3 ∷ below 5 ∷ below 8 ∷ below 10 ∷ below 8 ∷ below 3 ∷ pos 3 ∷
    pos 7 ∷ pos 7 ∷ pos 4 ∷ pos 2 ∷ pos 0 ∷ pos 0 ∷ pos 0 ∷ pos 0 ∷ pos 0 ∷ [])
    (18442904476257652016 ∷ 18372872479731048936 ∷ 17783024491306135936 ∷ 14746112482615309056 ∷ 4120087770787327836 ∷
    14604023770904108946 ∷ 4789018284443846240 ∷ 5092425992906824148 ∷ 12358020311907886680 ∷ 7418264133340566888 ∷
    10751567657332075104 ∷ 12505610408926126992 ∷ 6761312100899128608 ∷ 6452681555255808768 ∷ 18385483285099803776 ∷
    8684180303955701248 ∷ 16598231877287569920 ∷ 4374869538234977280 ∷ 791679932485795840 ∷ 87698145038827520 ∷
    4450719990022144 ∷ [])
    (below 3492 ∷ below 3359 ∷ below 3177 ∷ below 2952 ∷ below 2689 ∷ below 2390 ∷ below 2052 ∷ below 1672 ∷ below 1243 ∷
    below 759 ∷ below 219 ∷ pos 367 ∷ pos 981 ∷ pos 1591 ∷ pos 2163 ∷ pos 2674 ∷ pos 3116 ∷ pos 3490 ∷ pos 3790 ∷ pos 3988 ∷
    pos 4048 ∷ [])

unfoldable pub long_rides : List Ride
long_rides = most_ride ∷ least_ride ∷ long_ride ∷ []

unfoldable pub rides : List Ride
rides = (document_rides ++ own_rides) ++ long_rides

-- what a lent place holds that must stay
unfoldable pub mark : ℤ
mark = below 7

unfoldable pub low_mark : ℕ
low_mark = 9

-- the arrays as they are lent for a ride
unfoldable pub lent_for : Ride → Arrays
lent_for r = let room = length r.points + 1 in arrays (replicate room mark) (replicate room low_mark) (replicate room mark)

-- what the definitions give for a ride, on a tilt sample of age 0: the answer and the three arrays afterwards
unfoldable pub worked : Ride → Answer × Arrays
worked r =
    let rq = r.request in
    let lent = lent_for r in
    (answer rq 0 (rooms_of lent), arrays (high_after rq 0 lent) (low_after rq 0 lent) (points_after rq 0 lent))

-- what the table says of it: accepted, with these words and these points, and the last place of each array as it was
unfoldable pub stated : Ride → Answer × Arrays
stated r =
    let accepted : Answer = record { number = 0; place = 0; count = length r.points } in
    (accepted, arrays (r.high ++ (mark ∷ [])) (r.low ++ (low_mark ∷ [])) (r.points ++ (mark ∷ [])))

-- the rides with few choices, by the literal sums themselves
pub short-stated : map worked (document_rides ++ own_rides) ≡ map stated (document_rides ++ own_rides)
unfolding document_rides own_rides ride short naturals below curve tensor triangle mark low_mark lent_for worked stated
    high_after low_after points_after high_word low_word afterwards list_below answer refusals first decided refused accepted least not_kind
    not_degree not_surface not_path not_room not_value not_parameter not_balance value_place parameter_place balance_place beyond_travel
    beyond_path stale uneven is_number by_form degree longest surface_count path_count numbers row_start place_of net_of
    number_at path_number step blossom over_choices total weight arguments numerator denominator point nearest on_side_of half_up
    sum_to sum_over choose
short-stated = refl

-- "Reading a ride at k/q": a ride at the moment 1/3, the surface at the path's place times 1024^r·3^L, and the drawn curve
-- times 3^L
unfoldable pub at_third : Ride → ℤ × ℤ
at_third r = (surface_read r.request 1 3, drawn (longest r.request.head) r.points 1 3)

-- our own rides, reckoned from the same powers of t in fractions
pub read-as-stated : map at_third own_rides ≡ (pos 15556534583680, pos 14489) ∷ (pos 31607710880, pos 30130) ∷ []
unfolding at_third own_rides ride short naturals below tensor triangle by_form degree longest numbers row_start place_of net_of
    number_at path_number bernstein bernstein_triangle drawn coordinate scale surface_read sum_over choose pow one
read-as-stated = refl
