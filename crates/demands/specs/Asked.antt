-- A request written as a record is read as that request, and the door answers it as the composer does. Assumes nothing.
use Rattle.std.specs.Prelude.{◌≡◌, Bool, cond, List, [], ◌++◌, ℕ, ◌+◌, ◌*◌, ◌≤◌, ◌<◌, ℤ, pos, length, drop}
use Rattle.std.proofs.Math.Path.{refl, sym, ap}
use Rattle.std.proofs.Common.{◌∙◌, append-nil, append_assoc, length-append, ext_get_or}
use Rattle.std.proofs.Math.Bool.{true, false, not}
use Rattle.std.proofs.Math.Option.{Option, none, some}
use native.Mathlib.Omega.{arith}
use borrow.Author.Tests.{le-ltb, eq-eqb}
use Rattle.request.specs.units.Bounds.{stale}
use Rattle.request.specs.Head.{surface_count, path_count}
use Rattle.request.specs.Request.{Request}
use Rattle.request.specs.Cascade.{first, decided}
use Rattle.request.specs.Refusal.{not_kind, not_degree, accepted, refusals, answer}
use Rattle.request.proofs.Cascade.{here, past, end}
use Rattle.compose.specs.Afterwards.{list_below}
use Rattle.lists.proofs.Written.{below_at, below_length}
use Rattle.wire.specs.Words.{word_end, word_bytes, word_at, number_bytes, number_at}
use Rattle.wire.specs.Start.{start, length_field, kind_field, record_start, record_of}
use Rattle.judgement.specs.Record.{aged_start, head_in, is_aged, start_in, path_start, body_end, request_in}
use Rattle.judgement.specs.Record.{today, missing_age, age_by, age_in, head_bytes, kind_of, age_bytes, request_record}
use Rattle.judgement.specs.Judgement.{most_rooms, not_of_kind, not_frame, not_body, refusals_by, door_refusals, composed, judged_by, judged}
use Rattle.replies.specs.Parts.{AllShort}
use Rattle.wire.proofs.Words.{numbers-length, number_read}

-- numbers that were written are read again, all of them
numbers-read : (before : List ℕ) (l : List ℤ) (rest : List ℕ) → AllShort l
    → list_below (length l) (number_at (before ++ (number_bytes l ++ rest)) (length before)) ≡ l
numbers-read before l rest s =
    let f = number_at (before ++ (number_bytes l ++ rest)) (length before) in
    ext_get_or (pos 0) (list_below (length l) f) l (below_length (length l) f)
    (λ i m.
    let k : i < length l = rw (below_length (length l) f) at m in
    (rw append-nil at (below_at (length l) f [] i (pos 0) k)) ∙ number_read before l rest i k (s.each i k))

at_least : (b : Bool) → start ≤ cond b aged_start start
at_least true = omega arith
at_least false = omega arith

-- an age, where there is one, fits two bytes; and where there is none it counts as the oldest
abbrev pub Fits : Option ℕ → Type 0
Fits none = Unit {0}
Fits (some age) = age < word_end

abbrev pub milliseconds : Option ℕ → ℕ
milliseconds none = missing_age today
milliseconds (some age) = age

-- the bytes before the control values
front : Request → Option ℕ → List ℕ
front rq age =
    record_start (4 + length (head_bytes rq.head ++ (age_bytes age ++ (number_bytes rq.surface ++ number_bytes rq.path)))) (kind_of age)
    ++ (head_bytes rq.head ++ age_bytes age)

module _ (rq : Request) where
  by-surface : (age : Option ℕ) → request_record rq age ≡ front rq age ++ (number_bytes rq.surface ++ number_bytes rq.path)
  unfolding front request_record record_of record_start word_bytes head_bytes age_bytes
  by-surface none = refl
  by-surface (some age) = refl

  by-path : (age : Option ℕ) → request_record rq age ≡ front rq age ++ number_bytes rq.surface ++ (number_bytes rq.path ++ [])
  by-path age = by-surface age ∙ rw (append-nil, append_assoc)

  kind-is : (age : Option ℕ) → kind_field (request_record rq age) ≡ kind_of age
  unfolding kind_field word_at request_record record_of record_start word_bytes kind_of
  kind-is none = refl
  kind-is (some age) = refl

  starts : (age : Option ℕ) → start_in (request_record rq age) ≡ length (front rq age)
  unfolding start_in is_aged front record_start word_bytes head_bytes age_bytes kind_of
  starts none = rw (kind-is none)
  starts (some age) = rw (kind-is (some age))

  age_is : (age : Option ℕ) → Fits age → age_in (request_record rq age) ≡ milliseconds age
  unfolding age_by is_aged kind_of word_at request_record record_of record_start word_bytes head_bytes age_bytes
  age_is none m = rw (kind-is none)
  age_is (some age) m = rw (kind-is (some age)) (omega arith)

  head_is : (age : Option ℕ) → head_in (request_record rq age) ≡ rq.head
  unfolding head_in request_record record_of record_start word_bytes head_bytes
  head_is age = refl

  record-length : (age : Option ℕ) → length (request_record rq age) ≡ start_in (request_record rq age) + 2 * length rq.surface + 2 * length rq.path
  record-length age =
      let numbers = numbers-length rq.surface in
      ap length (by-surface age) ∙ rw (length-append, length-append, starts age, numbers, numbers-length rq.path) (omega arith)

  long : (age : Option ℕ) → start ≤ start_in (request_record rq age)
  unfolding start_in
  long age = at_least (is_aged (request_record rq age))

  length-is : (age : Option ℕ) → length_field (request_record rq age) ≡ length (request_record rq age)
  unfolding length_field word_at request_record record_of record_start word_bytes
  length-is age = omega arith

  of-kind : (age : Option ℕ) → not_of_kind (request_record rq age) ≡ false
  unfolding not_of_kind is_aged kind_of start_in
  of-kind none = rw (kind-is none)
  of-kind (some age) =
      let here : start_in (request_record rq (some age)) ≡ aged_start = rw (kind-is (some age)) in
      rw (kind-is (some age)) (le-ltb (length (request_record rq (some age))) aged_start (omega (arith, record-length (some age), here)))

  framed : (age : Option ℕ) → not_frame (request_record rq age) ≡ false
  unfolding not_frame
  framed age = rw (le-ltb (length (request_record rq age)) start (omega (arith, record-length age, long age)), eq-eqb _ _ (length-is age), of-kind age)

-- a request that a record can hold: its form and degrees are 01's (rule Forms and degrees), and so are its counts
pub record Askable (rq : Request) : Type 0 where
  pub kind : not_kind rq.head ≡ false
  pub degrees : not_degree rq.head ≡ false
  pub surface_is : length rq.surface ≡ surface_count rq.head
  pub path_is : length rq.path ≡ path_count rq.head
  pub values : AllShort rq.surface
  pub numbers : AllShort rq.path

module _ (rq : Request) (age : Option ℕ) (ok : Askable rq) where
  surface-got : list_below (surface_count rq.head) (number_at (request_record rq age) (start_in (request_record rq age))) ≡ rq.surface
  surface-got = rw (starts rq age, ← ok.surface_is, by-surface rq age) (numbers-read (front rq age) rq.surface (number_bytes rq.path) ok.values)

  path-starts : path_start (start_in (request_record rq age)) rq.head ≡ length (front rq age ++ number_bytes rq.surface)
  unfolding path_start
  path-starts = rw (length-append, starts rq age, numbers-length, ok.surface_is)

  path-got : list_below (path_count rq.head) (number_at (request_record rq age) (path_start (start_in (request_record rq age)) rq.head)) ≡ rq.path
  path-got = rw (path-starts, ← ok.path_is, by-path rq age) (numbers-read (front rq age ++ number_bytes rq.surface) rq.path [] ok.numbers)

  pub read_again : request_in (request_record rq age) ≡ rq
  unfolding request_in
  read_again = rw (head_is rq age, surface-got, path-got)

  body_end_lem : length (request_record rq age) ≡ body_end (start_in (request_record rq age)) (head_in (request_record rq age))
  unfolding body_end path_start
  body_end_lem = rw (head_is rq age, ← ok.surface_is, ← ok.path_is) (record-length rq age)

  body-fits : not_body (request_record rq age) ≡ false
  unfolding not_body
  body-fits = ap not (eq-eqb _ _ body_end_lem)

  -- behind KIND and DEGREE the door and the composer look at the age alike
  door : judged (request_record rq age)
      ≡ decided (first (drop 3 (door_refusals (request_record rq age)))) (composed (request_record rq age))
  unfolding judged_by refusals_by
  door =
      let kind : not_kind (head_in (request_record rq age)) ≡ false = rw (head_is rq age) ok.kind in
      let degrees : not_degree (head_in (request_record rq age)) ≡ false = rw (head_is rq age) ok.degrees in
      past _ _ _ (framed rq age) ∙ past _ _ _ kind ∙ past _ _ _ degrees

  composer : answer rq (milliseconds age) most_rooms
      ≡ decided (first (drop 2 (refusals rq (milliseconds age) most_rooms))) (accepted rq.head)
  unfolding answer refusals
  composer = past _ _ _ ok.kind ∙ past _ _ _ ok.degrees

  by-age : Fits age → (b : Bool) → stale (milliseconds age) ≡ b → judged (request_record rq age) ≡ answer rq (milliseconds age) most_rooms
  unfolding refusals_by refusals
  by-age m true o = door ∙ here _ _ _ (ap stale (age_is rq age m) ∙ o) ∙ sym (composer ∙ here _ _ _ o)
  by-age m false o =
      door ∙ past _ _ _ (ap stale (age_is rq age m) ∙ o) ∙ past _ _ _ body-fits ∙ end _ ∙ rw (read_again, age_is rq age m)

  pub answered-alike : Fits age → judged (request_record rq age) ≡ answer rq (milliseconds age) most_rooms
  answered-alike m = by-age m (stale (milliseconds age)) refl
