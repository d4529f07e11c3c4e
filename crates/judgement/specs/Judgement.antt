-- The order in which the door judges a request: its own refusal 9 FRAME around KIND, DEGREE and STALE, and then the
-- composer. Assumes nothing.
use Rattle.std.specs.Prelude.{Bool, not, cond, ◌||◌, List, [], ◌∷◌, ℕ, ltb, eqb, length}
use Rattle.request.specs.units.Bounds.{stale}
use Rattle.request.specs.declared.Answer.{Answer}
use Rattle.request.specs.declared.Rooms.{Rooms}
use Rattle.request.specs.Head.{most_points}
use Rattle.request.specs.Cascade.{Test, test, first, refused, decided}
use Rattle.request.specs.Refusal.{not_kind, not_degree, answer}
use Rattle.wire.specs.Start.{length_field, kind_field, start}
use Rattle.judgement.specs.Record.{request_kind, aged_start, head_in, is_aged, start_in, Reading, today, age_by, body_end, request_in}

-- "another kind"; and "kind 0x0002 [..] under 10 bytes is FRAME"
unfoldable pub not_of_kind : List ℕ → Bool
not_of_kind bytes = cond (is_aged bytes) (ltb (length bytes) aged_start) (not (eqb (kind_field bytes) request_kind))

-- 9 FRAME: "fewer than 8 bytes, a length that isn't the slice's, or another kind"
unfoldable pub not_frame : List ℕ → Bool
not_frame bytes = ltb (length bytes) start || not (eqb (length_field bytes) (length bytes)) || not_of_kind bytes

-- 9 FRAME again: "a body not exactly as long as the degrees say [..] stands for SURFACE and PATH"
unfoldable pub not_body : List ℕ → Bool
not_body bytes = not (eqb (length bytes) (body_end (start_in bytes) (head_in bytes)))

-- the door's own table by either reading, each at "place 0": FRAME "comes first; KIND and DEGREE follow; a body not exactly as
-- long [..] is FRAME again"; STALE "stands right after DEGREE"
unfoldable pub refusals_by : Reading → List ℕ → List Test
refusals_by reading bytes =
    test 9 (not_frame bytes) 0
    ∷ test 1 (not_kind (head_in bytes)) 0
    ∷ test 2 (not_degree (head_in bytes)) 0
    ∷ test 10 (stale (age_by reading bytes)) 0
    ∷ test 9 (not_body bytes) 0
    ∷ []

abbrev pub door_refusals : List ℕ → List Test
door_refusals = refusals_by today

-- by that table alone: number 0 where none of its tests holds
unfoldable pub tested : List ℕ → Answer
tested bytes = decided (first (door_refusals bytes)) (refused 0 0)

-- room for the longest ride
abbrev pub most_rooms : Rooms
most_rooms = record { high = most_points; low = most_points; points = most_points }

-- the composer's answer to the request in a record
abbrev pub composed_by : Reading → List ℕ → Answer
composed_by reading bytes = answer (request_in bytes) (age_by reading bytes) most_rooms

abbrev pub composed : List ℕ → Answer
composed = composed_by today

-- what is answered to a record: by the door's table, and then by the composer
unfoldable pub judged_by : Reading → List ℕ → Answer
judged_by reading bytes = decided (first (refusals_by reading bytes)) (composed_by reading bytes)

abbrev pub judged : List ℕ → Answer
judged = judged_by today
