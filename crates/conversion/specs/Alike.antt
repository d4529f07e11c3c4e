-- The door's reply to a request without an age, when that counted as age 0, is its reply to the request that carries age 0, by
-- either reading; and of every other request both readings answer alike. Assumes nothing.
use Rattle.std.specs.Prelude.{◌≡◌, Bool, true, false, ◌||◌, List, [], ◌∷◌, ℕ, zero, suc, ◌+◌, ◌*◌, ◌%◌, ◌/◌, eqb, ltb, length, get_or}
use Rattle.std.proofs.Math.Path.{refl}
use Rattle.std.proofs.Common.{sym, ap, ◌∙◌, get_or-append-add}
use Rattle.std.proofs.Math.Bool.{not}
use Rattle.std.proofs.lemmas.Bool.{false≢true}
use native.Mathlib.Omega.{arith}
use borrow.Author.Tests.{eq-eqb, ne_eqb, le-ltb, eqb-true}
use Rattle.request.specs.Cascade.{first, refused, decided}
use Rattle.request.specs.Head.{surface_count, path_count}
use Rattle.lists.specs.Lists.{list_below}
use Rattle.wire.specs.Words.{word_at, number_at}
use Rattle.wire.specs.Start.{start, length_field, kind_field}
use Rattle.judgement.specs.Record.{request_kind, head_in, is_aged, start_in, Reading, former, missing_age, age_by}
use Rattle.judgement.specs.Record.{path_start, body_end, request_in}
use Rattle.judgement.specs.Judgement.{not_of_kind, not_frame, not_body, refusals_by, judged_by}
use Rattle.door.specs.Contract.{points_by, reply_by}
use Rattle.aging.specs.Convert.{former_longest, ageless, aged}
use Rattle.aging.proofs.Records.{IsRecord, Request, other, without, request-is, with_age, age-field}

below-same : {A : Type 0} (n : ℕ) (f g : ℕ → A) → ((k : ℕ) → f k ≡ g k) → list_below n f ≡ list_below n g
unfolding list_below
below-same zero f g e = refl
below-same (suc n) f g e = rw (e zero, below-same n (λ k. f (suc k)) (λ k. g (suc k)) (λ k. e (suc k)))

same_test : (x y x' y' : ℕ) → (x ≡ y → x' ≡ y') → (x' ≡ y' → x ≡ y) → eqb x y ≡ eqb x' y'
same_test x y x' y' to from = by (eqb x' y') refl
  where
    by : (t : Bool) → eqb x' y' ≡ t → eqb x y ≡ eqb x' y'
    by true p = eq-eqb x y (from (eqb-true x' y' p)) ∙ sym p
    by false p = ne_eqb x y (λ q. false≢true (sym p ∙ eq-eqb x' y' (to q))) ∙ sym p

or-true : (a b : Bool) → b ≡ true → (a || b) ≡ true
or-true true b p = refl
or-true false b p = p

-- ---- a request without an age, and the one that it becomes

module _ (a b c d e f g h : ℕ) (s : List ℕ) where
  abbrev old : List ℕ
  old = a ∷ b ∷ c ∷ d ∷ e ∷ f ∷ g ∷ h ∷ s

  abbrev new : List ℕ
  new = with_age e f g h s

  byte-new : (i : ℕ) → get_or new (10 + i) 0 ≡ get_or s i 0
  byte-new i = get_or-append-add ((10 + length s) % 256 ∷ (10 + length s) / 256 ∷ 2 ∷ 0 ∷ e ∷ f ∷ g ∷ h ∷ 0 ∷ 0 ∷ []) s i 0

  byte-old : (i : ℕ) → get_or old (8 + i) 0 ≡ get_or s i 0
  byte-old i = get_or-append-add (a ∷ b ∷ c ∷ d ∷ e ∷ f ∷ g ∷ h ∷ []) s i 0

  word_same : (n m i : ℕ) → n ≡ 10 + i → m ≡ 8 + i → word_at new n ≡ word_at old m
  unfolding word_at
  word_same n m i p q =
      let p' : n + 1 ≡ 10 + (i + 1) = omega arith in
      let q' : m + 1 ≡ 8 + (i + 1) = omega arith in
      rw (p', q', p, q, byte-new i, byte-new (i + 1), byte-old i, byte-old (i + 1))

  number_same : (n m j k : ℕ) → n ≡ 10 + j → m ≡ 8 + j → number_at new n k ≡ number_at old m k
  unfolding number_at
  number_same n m j k p q = rw (word_same (n + 2 * k) (m + 2 * k) (j + 2 * k) (omega arith) (omega arith))

  is_aged_lem : is_aged new ≡ true
  unfolding is_aged kind_field word_at
  is_aged_lem = refl

  frame-new : not_frame new ≡ false
  unfolding not_frame not_of_kind
  frame-new = rw (
    age-field e f g h s,
    is_aged_lem,
    eq-eqb (length new) (length new) refl,
    le-ltb (length new) 8 (omega arith),
    le-ltb (length new) 10 (omega arith),
  )

  head-same : head_in new ≡ head_in old
  unfolding head_in
  head-same = refl

  age-new : (reading : Reading) → age_by reading new ≡ 0
  unfolding age_by word_at
  age-new reading = rw is_aged_lem

  start-new : start_in new ≡ 10
  unfolding start_in
  start-new = rw is_aged_lem

  module _ (kind : kind_field old ≡ request_kind) (size : length_field old ≡ length old) where
    not-aged : is_aged old ≡ false
    unfolding is_aged
    not-aged = rw kind

    frame-old : not_frame old ≡ false
    unfolding not_frame not_of_kind
    frame-old = rw (size, not-aged, kind, eq-eqb (length old) (length old) refl, le-ltb (length old) 8 (omega arith))

    age-old : age_by former old ≡ 0
    unfolding age_by missing_age
    age-old = rw not-aged

    start-old : start_in old ≡ 8
    unfolding start_in
    start-old = rw not-aged

    body_same : not_body new ≡ not_body old
    unfolding not_body body_end path_start
    body_same =
        let m = surface_count (head_in old) in
        let n = path_count (head_in old) in
        rw (start-new, start-old, head-same)
        (ap not (same_test (length new) (10 + 2 * m + 2 * n) (length old) (8 + 2 * m + 2 * n) (λ p. omega arith) (λ p. omega arith)))

    request-same : request_in new ≡ request_in old
    unfolding request_in path_start
    request-same =
        let m = surface_count (head_in old) in
        let n = path_count (head_in old) in
        rw (
          head-same,
          start-new,
          start-old,
          below-same m (number_at new 10) (number_at old 8) (λ k. number_same 10 8 0 k refl refl),
          below-same n (number_at new (10 + 2 * m)) (number_at old (8 + 2 * m))
              (λ k. number_same (10 + 2 * m) (8 + 2 * m) (2 * m) k refl refl),
        )

    judged-same : (reading : Reading) → judged_by reading new ≡ judged_by former old
    unfolding judged_by refusals_by
    judged-same reading = rw (frame-new, frame-old, head-same, age-new reading, age-old, body_same, request-same)

    reply-aged : (reading : Reading) → reply_by reading new ≡ reply_by former old
    unfolding reply_by points_by
    reply-aged reading = rw (judged-same reading, request-same)

-- ---- any other request

module _ (request : List ℕ) (plain : ageless request ≡ false) (reading : Reading) where
  age-other : (r : Reading) → is_aged request ≡ true → age_by r request ≡ word_at request start
  unfolding age_by
  age-other r e = rw e

  frame-other : is_aged request ≡ false → not_frame request ≡ true
  unfolding not_frame not_of_kind ageless
  frame-other e =
      or-true (ltb (length request) start || not (eqb (length_field request) (length request))) _ (rw (e, plain))

  judged-frame : (r : Reading) → not_frame request ≡ true → judged_by r request ≡ refused 9 0
  unfolding judged_by refusals_by first decided
  judged-frame r e = rw e

  judged-age : is_aged request ≡ true → judged_by reading request ≡ judged_by former request
  unfolding judged_by refusals_by
  judged-age e = rw (age-other reading e, age-other former e)

  judged-other : judged_by reading request ≡ judged_by former request
  judged-other = by (is_aged request) refl
    where
      by : (t : Bool) → is_aged request ≡ t → judged_by reading request ≡ judged_by former request
      by true e = judged-age e
      by false e = judged-frame reading (frame-other e) ∙ sym (judged-frame former (frame-other e))

  reply-other : reply_by reading request ≡ reply_by former request
  unfolding reply_by points_by
  reply-other = rw judged-other

-- ---- a whole request of any kind

alike : (reading : Reading) {q : List ℕ} → length_field q ≡ length q → Request q → reply_by reading (aged q) ≡ reply_by former q
alike reading {q} size (other plain same) = ap (reply_by reading) same ∙ reply-other q plain reading
alike reading size (without {a} {b} {c} {d} {e} {f} {g} {h} {s} kind is) =
    ap (reply_by reading) is ∙ reply-aged a b c d e f g h s kind size reading

pub reply-alike : (reading : Reading) (q : List ℕ) → IsRecord former_longest q → reply_by reading (aged q) ≡ reply_by former q
reply-alike reading q r = alike reading r.field (request-is q r.least)
