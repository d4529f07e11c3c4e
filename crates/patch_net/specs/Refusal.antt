-- "Refusals 2 to 8 keep order and meaning with these limits, PATH asking for three numbers to each domain point, ROOM for as many
-- places as the answer has points; there is no age, no STALE". Assumes nothing.
use Rattle.std.specs.Prelude.{Bool, not, ◌||◌, List, [], ◌∷◌, ℕ, ◌*◌, ltb, eqb, length}
use Rattle.request.specs.declared.Answer.{Answer}
use Rattle.request.specs.Cascade.{Test, test, first, decided}
use Rattle.request.specs.Refusal.{least, value_place, parameter_place, uneven}
use Rattle.patch_net.specs.Patch.{Patch, most_degree, longest, places}

-- 2 DEGREE: either degree above 3. Degrees are whole numbers here, so no product wraps, however large
unfoldable pub not_degree : Patch → Bool
not_degree p = ltb most_degree p.outer || ltb most_degree p.domain

-- 3 SURFACE and 4 PATH: the counts
unfoldable pub not_surface : Patch → Bool
not_surface p = not (eqb (length p.surface) (places p.outer))

unfoldable pub not_path : Patch → Bool
not_path p = not (eqb (length p.path) (3 * places p.domain))

-- 5 ROOM: either output array has fewer places than the answer has points
unfoldable pub not_room : Patch → ℕ → ℕ → Bool
not_room p exact_room points_room = ltb exact_room (places (longest p)) || ltb points_room (places (longest p))

-- 6 VALUE and 7 PARAMETER, each with its least place
unfoldable pub not_value : Patch → Bool
not_value p = ltb (value_place p.surface) (length p.surface)

unfoldable pub not_parameter : Patch → Bool
not_parameter p = ltb (parameter_place p.path) (length p.path)

-- 8 BALANCE: the least number of a domain point of which x+y+z is not 1,024, or their count
unfoldable pub balance_place : Patch → ℕ
balance_place p = least (places p.domain) (uneven p.path)

unfoldable pub not_balance : Patch → Bool
not_balance p = ltb (balance_place p) (places p.domain)

-- the table
unfoldable pub refusals : Patch → ℕ → ℕ → List Test
refusals p exact_room points_room =
    test 2 (not_degree p) 0
    ∷ test 3 (not_surface p) 0
    ∷ test 4 (not_path p) 0
    ∷ test 5 (not_room p exact_room points_room) 0
    ∷ test 6 (not_value p) (value_place p.surface)
    ∷ test 7 (not_parameter p) (parameter_place p.path)
    ∷ test 8 (not_balance p) (balance_place p)
    ∷ []

-- "Accepted, the count is the number of points."
unfoldable pub accepted : Patch → Answer
accepted p = record { number = 0; place = 0; count = places (longest p) }

unfoldable pub answer : Patch → ℕ → ℕ → Answer
answer p exact_room points_room = decided (first (refusals p exact_room points_room)) (accepted p)
