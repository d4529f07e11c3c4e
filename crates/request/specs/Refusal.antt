-- Rule Refusals: "The eight refusals, tested in this order" (01), and ticket 3's ninth: each test by itself, then all of them as
-- one table, and the answer. Degrees are whole numbers here, so no sum wraps, however large. Assumes nothing.
use Rattle.std.specs.Prelude.{Bool, false, not, cond, ◌||◌, List, [], ◌∷◌, ℕ, zero, suc, ◌+◌, ◌*◌, ℤ, pos, negsuc, ◌+ℤ◌, ltb, eqb, length, get_or}
use Rattle.request.specs.units.Bounds.{beyond_travel, beyond_path, stale, path_one}
use Rattle.request.specs.declared.Answer.{Answer}
use Rattle.request.specs.declared.Head.{Head}
use Rattle.request.specs.declared.Rooms.{Rooms}
use Rattle.request.specs.Head.{most_degree, most_n, by_form, degree, longest, surface_count, path_count}
use Rattle.request.specs.Request.{Request}
use Rattle.request.specs.Cascade.{Test, test, first, decided}

-- the least k below n of which `bad` is true, or n where there is none
unfoldable pub least : ℕ → (ℕ → Bool) → ℕ
least zero bad = zero
least (suc n) bad = cond (bad zero) zero (suc (least n (λ k. bad (suc k))))

-- 1 KIND: "form is not 1, 2 or 3"
unfoldable pub not_kind : Head → Bool
not_kind h = not (eqb h.form 1 || eqb h.form 2 || eqb h.form 3)

-- 2 DEGREE (rule Refusals): "r above 4, N above 3 (6 since ticket 6), or a second degree other than 0 in forms 1 and 3"
unfoldable pub not_degree : Head → Bool
not_degree h = ltb most_degree (degree h) || ltb most_n h.N || by_form h (not (eqb h.second 0)) false (not (eqb h.second 0))

-- 3 SURFACE: "count of control values is not exactly m+1, (l+1)(m+1) or (n+1)(n+2)/2"
unfoldable pub not_surface : Request → Bool
not_surface rq = not (eqb (length rq.surface) (surface_count rq.head))

-- 4 PATH: "count of path numbers is not exactly 1, 2 or 3 times N+1"
unfoldable pub not_path : Request → Bool
not_path rq = not (eqb (length rq.path) (path_count rq.head))

-- 5 ROOM: "ROOM asks for L+1 places in each of the three" output arrays (rule Refusals; 02, ticket 6)
unfoldable pub not_room : Head → Rooms → Bool
not_room h rooms = ltb rooms.high (longest h + 1) || ltb rooms.low (longest h + 1) || ltb rooms.points (longest h + 1)

-- the place of 6 VALUE: "the least index in its input array" of "a control value beyond its bounds", or the array's length
unfoldable pub value_place : List ℤ → ℕ
value_place surface = least (length surface) (λ k. beyond_travel (get_or surface k (pos 0)))

-- the place of 7 PARAMETER: likewise of "a path number beyond its bounds"
unfoldable pub parameter_place : List ℤ → ℕ
parameter_place path = least (length path) (λ k. beyond_path (get_or path k (pos 0)))

-- 6 VALUE and 7 PARAMETER are given exactly where there is such a place
unfoldable pub not_value : Request → Bool
not_value rq = ltb (value_place rq.surface) (length rq.surface)

unfoldable pub not_parameter : Request → Bool
not_parameter rq = ltb (parameter_place rq.path) (length rq.path)

-- the whole number z is n
unfoldable pub is_number : ℤ → ℕ → Bool
is_number (pos m) n = eqb m n
is_number (negsuc m) n = false

-- "x+y+z of a point is not 1,024", of path point c
unfoldable pub uneven : List ℤ → ℕ → Bool
uneven path c = not (is_number (get_or path (3 * c) (pos 0) +ℤ get_or path (3 * c + 1) (pos 0) +ℤ get_or path (3 * c + 2) (pos 0)) path_one)

-- the place of 8 BALANCE: "the least point number" among the N+1 points of one whose "x+y+z is not 1,024", or N+1
unfoldable pub balance_place : List ℤ → ℕ → ℕ
balance_place path N = least (N + 1) (uneven path)

-- 8 BALANCE: "form 3: x+y+z of a point is not 1,024"
unfoldable pub not_balance : Request → Bool
not_balance rq = by_form rq.head false false (ltb (balance_place rq.path rq.head.N) (rq.head.N + 1))

-- "Accepted: 0, 0, L+1."
unfoldable pub accepted : Head → Answer
accepted h = record { number = 0; place = 0; count = longest h + 1 }

-- the table, for the age of the tilt sample and the three rooms: "For 6 and 7 the place is the least index in its input array;
-- for 8 it is the least point number; otherwise 0." 10 STALE "stands right after DEGREE" (rule Refusals; 02, ticket 3)
unfoldable pub refusals : Request → ℕ → Rooms → List Test
refusals rq age rooms =
    test 1 (not_kind rq.head) 0
    ∷ test 2 (not_degree rq.head) 0
    ∷ test 10 (stale age) 0
    ∷ test 3 (not_surface rq) 0
    ∷ test 4 (not_path rq) 0
    ∷ test 5 (not_room rq.head rooms) 0
    ∷ test 6 (not_value rq) (value_place rq.surface)
    ∷ test 7 (not_parameter rq) (parameter_place rq.path)
    ∷ test 8 (not_balance rq) (balance_place rq.path rq.head.N)
    ∷ []

-- "The answer is a number, a place and a count."
unfoldable pub answer : Request → ℕ → Rooms → Answer
answer rq age rooms = decided (first (refusals rq age rooms)) (accepted rq.head)
