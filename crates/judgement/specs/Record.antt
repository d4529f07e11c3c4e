-- The request records of tickets 1, 3 and 10 (rule Records): what stands where behind the length and the kind with which a record
-- starts (Rattle.wire.specs.Start). Assumes nothing.
use Rattle.std.specs.Prelude.{Bool, cond, List, [], ◌∷◌, ◌++◌, ℕ, ◌+◌, ◌*◌, eqb, get_or}
use Rattle.std.proofs.Math.Option.{Option, none, some}
use Rattle.request.specs.declared.Head.{Head}
use Rattle.request.specs.Head.{surface_count, path_count}
use Rattle.request.specs.Request.{Request}
use Rattle.lists.specs.Lists.{list_below}
use Rattle.wire.specs.Words.{word_bytes, word_at, number_bytes, number_at}
use Rattle.wire.specs.Start.{kind_field, start, record_of}

abbrev pub request_kind : ℕ
request_kind = 0x0001

-- "kind 0x0002 carries the age in two bytes after N"
abbrev pub aged_kind : ℕ
aged_kind = 0x0002

-- where a record's numbers begin after an age
abbrev pub aged_start : ℕ
aged_start = 10

-- "form, first degree, second degree and N, a byte each"
unfoldable pub head_in : List ℕ → Head
head_in bytes = record { form = get_or bytes 4 0; first = get_or bytes 5 0; second = get_or bytes 6 0; N = get_or bytes 7 0 }

-- whether a request carries an age, and where its numbers begin
unfoldable pub is_aged : List ℕ → Bool
is_aged bytes = eqb (kind_field bytes) aged_kind

unfoldable pub start_in : List ℕ → ℕ
start_in bytes = cond (is_aged bytes) aged_start start

-- the reading by which a request without an age was judged, "kind 0x0001 counts as age 0 for now" (ticket 3), and today's, "from now
-- on such a request is STALE" (rule Old traces; ticket 10): the converter's promise speaks of both. A missing age counts as none, or as the oldest
pub data Reading : Type 0 where
  former : Reading
  today : Reading

unfoldable pub missing_age : Reading → ℕ
missing_age former = 0
missing_age today = 65535

-- the age of a request's tilt sample, by either; and by today's
unfoldable pub age_by : Reading → List ℕ → ℕ
age_by reading bytes = cond (is_aged bytes) (word_at bytes start) (missing_age reading)

abbrev pub age_in : List ℕ → ℕ
age_in = age_by today

-- where the path numbers begin, and where the record ends that is "exactly as long as the degrees say", of a record whose
-- numbers begin at a byte
unfoldable pub path_start : ℕ → Head → ℕ
path_start from h = from + 2 * surface_count h

unfoldable pub body_end : ℕ → Head → ℕ
body_end from h = path_start from h + 2 * path_count h

-- the request in a record: "then control values and path numbers, two bytes signed each"
unfoldable pub request_in : List ℕ → Request
request_in bytes =
    let h = head_in bytes in
    record {
      head = h;
      surface = list_below (surface_count h) (number_at bytes (start_in bytes));
      path = list_below (path_count h) (number_at bytes (path_start (start_in bytes) h));
    }

-- and the record of a request, with the age of its tilt sample or without
unfoldable pub head_bytes : Head → List ℕ
head_bytes h = h.form ∷ h.first ∷ h.second ∷ h.N ∷ []

unfoldable pub kind_of : Option ℕ → ℕ
kind_of none = request_kind
kind_of (some age) = aged_kind

unfoldable pub age_bytes : Option ℕ → List ℕ
age_bytes none = []
age_bytes (some age) = word_bytes age

unfoldable pub request_record : Request → Option ℕ → List ℕ
request_record rq age = record_of (kind_of age) (head_bytes rq.head ++ (age_bytes age ++ (number_bytes rq.surface ++ number_bytes rq.path)))
