-- Laws of a pair in words. Assumes nothing.
use mathlib.Core.Path.{◌≡◌, refl, sym, ap, ◌∙◌}
use mathlib.Core.Bool.{Bool, true, false, cond}
use mathlib.Core.List.{List, [], ◌∷◌, ◌++◌, append_assoc, append-nil}
use Prim.Native.Nat.{ℕ, suc, ◌+◌, ◌*◌, ◌-◌, ◌^◌, ◌≤◌, ◌<◌, max}
use native.Mathlib.Numerals.{add-one}
use native.Mathlib.Omega.{arith}
use lib.Dec.{eqb, ltb}
use lib.ListN.{length, get_or, drop, drop_of_length-le}
use lib.Seq.{drop-cons}
use lib.IntN.{ℤ}
use mir.Val.{bool_byte}
use borrow.Author.Tests.{lt-ltb, le-ltb, eq-eqb, ne_eqb, eqb-true, ltb-false}
use Rattle.spell.specs.Decimal.{digits, decimal}
use Rattle.request.specs.declared.Head.{Head}
use Rattle.request.specs.Head.{surface_count, path_count}
use Rattle.request.specs.Refusal.{not_kind, not_degree}
use Rattle.wire.specs.Words.{word_at, signed, number_at}
use Rattle.wire.specs.Start.{kind_field, start}
use Rattle.judgement.specs.Record.{request_kind, aged_kind, aged_start, head_in, path_start, body_end}
use Rattle.judgement.proofs.Sizes.{surface-most, path-most}
use Rattle.replies.specs.Reply.{reply_kind}
use Rattle.names.specs.Names.{name_of}
use Rattle.page.specs.Page.{counted, numbered, hexed, byte_shown}
use Rattle.page.specs.Form.{is_mark, width, after, value_of, marked, piece, told, formed}
use Rattle.page.specs.declared.Paper.{Paper}
use Rattle.page.proofs.Putting.{Onward, onward-none}
use Rattle.page.proofs.Forming.{three-parts, four-parts}
use Rattle.shown.specs.entries.Entry.{title_of, first_difference}
use Rattle.shown.specs.Text.{newline, blank, bar, dash, accepted, refused_by, no_reply, gap, form_is, degrees_are, NIs, age_is, milliseconds, no_age, request_is, bytes_kind, bytes_are}
use Rattle.shown.specs.Text.{too_short, no_request, no_form, no_degree, other_body, values_are, path_is, reply_is, sizes, kinds, bar_kind, answers_are}
use Rattle.shown.specs.Text.{places_are, counts_are, point_is, the_same, recorded_is, today_is, differ_at, from_nought}
use Rattle.shown.specs.Asked.{head_text, numbers_text, lists_text, body_text, wish_text, plain_text, aged_text, kind_text, bytes_text, request_text}
use Rattle.shown.specs.Replied.{point_count, refusal_text, answer_text, answers_text, both_text, heads_text, places_text, point_text, row_text, rows_text, table_text}
use Rattle.shown.specs.Replied.{gap_of, last_text, marked_text, line_text, marks_text, end_text}
use Rattle.shown.specs.Forms.{kind_of, wish_of, lacks, kind_forms, wish_forms, table_form, places_form, row_forms}
use Rattle.shown.specs.Forms.{differ_form}
use Rattle.shown.specs.Page.{shown_page}

-- a loop begins with all of a text left
pub onward-from : (all : List ℕ) (old : Paper) (left : List ℕ) → left ≡ all → Onward all old old left
onward-from all old left e = rw e (onward-none all old)

-- ---- the request

pub numbers-all : (r : List ℕ) (from count : ℕ) → numbers_text r from 0 (count - 0) ≡ numbers_text r from 0 count
numbers-all r from count = let all : count - 0 ≡ count = omega arith in ap (λ (n : ℕ). numbers_text r from 0 n) all

pub number-next : (r : List ℕ) (from count k : ℕ) (z : ℤ) → k < count → z ≡ signed (word_at r (from + 2 * k))
    → numbers_text r from k (count - k) ≡ numbered blank z ++ numbers_text r from (k + 1) (count - (k + 1))
unfolding numbers_text number_at
number-next r from count k z l e =
    let more : count - k ≡ suc (count - (k + 1)) = omega arith in
    rw (more, add-one k, e)

pub numbers-over : (r : List ℕ) (from count k : ℕ) → count ≤ k → numbers_text r from k (count - k) ≡ []
unfolding numbers_text
numbers-over r from count k l = let none : count - k ≡ 0 = omega arith in rw none

-- the values and the path end where the record does
pub lists-fit : (from : ℕ) (h : Head) (v p size : ℕ) → v ≡ surface_count h → p ≡ path_count h → body_end from h ≡ size → from + 2 * v + 2 * p ≡ size
unfolding body_end path_start
lists-fit from h v p size is also e = rw (is, also) e

-- the place behind a body is small
pub body-fits : (from : ℕ) (h : Head) (v p : ℕ) → from ≤ aged_start → not_degree h ≡ false → v ≡ surface_count h → p ≡ path_count h
    → from + 2 * v + 2 * p < 2 ^ 32
body-fits from h v p early right is also = omega (arith, surface-most h right, path-most h right)

-- which form of what is wished
module _ (r : List ℕ) (from : ℕ) (h : Head) where
  module _ (t : Bool) (is : t ≡ not_kind h) where
    pub wish-form : t ≡ true → 0 ≡ wish_of r from h
    unfolding wish_of
    wish-form e = rw (← is, e)

    module _ (other : t ≡ false) (u : Bool) (also : u ≡ not_degree h) where
      pub wish-degree : u ≡ true → 1 ≡ wish_of r from h
      unfolding wish_of
      wish-degree e = rw (← is, other, ← also, e)

      module _ (right : u ≡ false) (v p : ℕ) (values : v ≡ surface_count h) (path : p ≡ path_count h) where
        pub wish-body : (from + 2 * v + 2 * p ≡ length r → ⊥) → 2 ≡ wish_of r from h
        unfolding wish_of body_end path_start
        wish-body e = rw (← is, other, ← also, right, ← values, ← path, ne_eqb _ _ e)

        pub wish-whole : from + 2 * v + 2 * p ≡ length r → 3 ≡ wish_of r from h
        unfolding wish_of body_end path_start
        wish-whole e = rw (← is, other, ← also, right, ← values, ← path, eq-eqb _ _ e)

-- a body that is told
whole_of : (t u v : Bool) (k : ℕ) → k ≡ cond t 0 (cond u 1 (cond v 3 2)) → k ≡ 3 → (u ≡ false) × (v ≡ true)
whole_of true u v k e f = absurd (omega arith)
whole_of false true v k e f = absurd (omega arith)
whole_of false false true k e f = (refl, refl)
whole_of false false false k e f = absurd (omega arith)

module _ (r : List ℕ) (from : ℕ) (h : Head) (k : ℕ) (is : k ≡ wish_of r from h) (whole : k ≡ 3) where
  pub whole-degree : not_degree h ≡ false
  unfolding wish_of
  whole-degree = (whole_of (not_kind h) (not_degree h) (eqb (body_end from h) (length r)) k is whole).0

  pub whole_length : body_end from h ≡ length r
  unfolding wish_of
  whole_length = eqb-true _ _ (whole_of (not_kind h) (not_degree h) (eqb (body_end from h) (length r)) k is whole).1

-- the texts of the wish's forms
module _ (r : List ℕ) where
  form-text : formed 0 wish_forms r r 0 0 ≡ no_form
  unfolding formed told piece marked value_of after width is_mark
  form-text = refl

  degree-text : formed 1 wish_forms r r 0 0 ≡ no_degree
  unfolding formed told piece marked value_of after width is_mark
  degree-text = refl

  body-text : formed 2 wish_forms r r 0 0 ≡ other_body
  unfolding formed told piece marked value_of after width is_mark
  body-text = refl

  values-text : formed 3 wish_forms r r 0 0 ≡ values_are
  unfolding formed told piece marked value_of after width is_mark
  values-text = refl

  wish-text : (t u v : Bool) (k : ℕ) (body : List ℕ) → k ≡ cond t 0 (cond u 1 (cond v 3 2)) → (k ≡ 3 → ⊥)
      → formed k wish_forms r r 0 0 ≡ cond t no_form (cond u no_degree (cond v body other_body))
  wish-text true u v k body e f = rw e form-text
  wish-text false true v k body e f = rw e degree-text
  wish-text false false true k body e f = absurd (f e)
  wish-text false false false k body e f = rw e body-text

  whole-text : (t u v : Bool) (k : ℕ) (body : List ℕ) → k ≡ cond t 0 (cond u 1 (cond v 3 2)) → k ≡ 3
      → formed k wish_forms r r 0 0 ++ body ≡ cond t no_form (cond u no_degree (cond v (values_are ++ body) other_body))
  whole-text true u v k body e f = absurd (omega arith)
  whole-text false true v k body e f = absurd (omega arith)
  whole-text false false true k body e f = rw (e, values-text)
  whole-text false false false k body e f = absurd (omega arith)

  pub wish-short : (from : ℕ) (h : Head) (k : ℕ) → k ≡ wish_of r from h → (k ≡ 3 → ⊥) → formed k wish_forms r r 0 0 ≡ wish_text r from h
  unfolding wish_of wish_text body_text
  wish-short from h k e f = wish-text (not_kind h) (not_degree h) (eqb (body_end from h) (length r)) k _ e f

  wish-whole-told : (from : ℕ) (h : Head) (k : ℕ) → k ≡ wish_of r from h → k ≡ 3
      → formed k wish_forms r r 0 0 ++ (numbers_text r from 0 (surface_count h) ++ path_is ++ numbers_text r (path_start from h) 0 (path_count h))
      ≡ wish_text r from h
  unfolding wish_of wish_text body_text lists_text
  wish-whole-told from h k e f =
      whole-text (not_kind h) (not_degree h) (eqb (body_end from h) (length r)) k
      (numbers_text r from 0 (surface_count h) ++ path_is ++ numbers_text r (path_start from h) 0 (path_count h)) e f

  lists-are : (from : ℕ) (h : Head) (v p : ℕ) → v ≡ surface_count h → p ≡ path_count h
      → numbers_text r from 0 v ++ path_is ++ numbers_text r (from + 2 * v) 0 p
      ≡ numbers_text r from 0 (surface_count h) ++ path_is ++ numbers_text r (path_start from h) 0 (path_count h)
  unfolding path_start
  lists-are from h v p is also = rw (is, also)

  four-in : (a b c d : List ℕ) → a ++ b ++ c ++ d ≡ a ++ (b ++ c ++ d)
  four-in a b c d = simp append_assoc

  pub wish-told : (from : ℕ) (h : Head) (k v p : ℕ) → k ≡ wish_of r from h → k ≡ 3 → v ≡ surface_count h → p ≡ path_count h
      → formed k wish_forms r r 0 0 ++ numbers_text r from 0 v ++ path_is ++ numbers_text r (from + 2 * v) 0 p ≡ wish_text r from h
  wish-told from h k v p e f is also =
      four-in (formed k wish_forms r r 0 0) (numbers_text r from 0 v) path_is (numbers_text r (from + 2 * v) 0 p)
      ∙ rw (lists-are from h v p is also) (wish-whole-told from h k e f)

pub wish-same : (r : List ℕ) (from : ℕ) (h g : Head) → h ≡ g → wish_text r from h ≡ wish_text r from g
wish-same r from h g e = rw e

-- which form of the kind
module _ (r : List ℕ) (k : ℕ) (is : k ≡ word_at r 2) where
  pub kind-plain : k ≡ request_kind → 0 ≡ kind_of r
  unfolding kind_of kind_field
  kind-plain e = rw (← is, eq-eqb k request_kind e)

  module _ (other : k ≡ request_kind → ⊥) where
    pub kind-none : (k ≡ aged_kind → ⊥) → 3 ≡ kind_of r
    unfolding kind_of kind_field
    kind-none e = rw (← is, ne_eqb k request_kind other, ne_eqb k aged_kind e)

    pub kind-short : k ≡ aged_kind → length r < aged_start → 2 ≡ kind_of r
    unfolding kind_of kind_field
    kind-short e l = rw (← is, ne_eqb k request_kind other, eq-eqb k aged_kind e, lt-ltb _ _ l)

    pub kind-aged : k ≡ aged_kind → aged_start ≤ length r → 1 ≡ kind_of r
    unfolding kind_of kind_field
    kind-aged e l = rw (← is, ne_eqb k request_kind other, eq-eqb k aged_kind e, le-ltb _ _ l)

-- the texts of its forms
abbrev opening : List ℕ → List ℕ
opening r = newline ++ (counted request_is (length r) ++ hexed bytes_kind (kind_field r))

open-parts : (a b c d : List ℕ) → a ++ (b ++ (c ++ d)) ≡ a ++ b ++ c ++ d
open-parts a b c d = simp append_assoc

module _ (r : List ℕ) (n : ℕ) where
  -- what stands behind the opening
  opened : (text : List ℕ) → (10 ∷ request_is) ++ (digits (length r) ++ (hexed bytes_kind (kind_field r) ++ text)) ≡ opening r ++ text
  unfolding counted
  opened text = open-parts (10 ∷ request_is) (digits (length r)) (hexed bytes_kind (kind_field r)) text

  head-parts : (behind : List ℕ) → form_is ++ (digits (get_or r 4 0) ++ (degrees_are ++ (digits (get_or r 5 0) ++ (blank ++ (digits (get_or r 6 0)
      ++ (NIs ++ (digits (get_or r 7 0) ++ behind))))))) ≡ head_text r ++ behind
  unfolding counted head_text
  head-parts behind =
      four-parts form_is (digits (get_or r 4 0)) degrees_are (digits (get_or r 5 0)) blank (digits (get_or r 6 0)) NIs (digits (get_or r 7 0)) behind

  plain_form : formed 0 kind_forms r r n 0 ≡ (10 ∷ request_is) ++ (digits (length r) ++ (hexed bytes_kind (kind_field r) ++ (form_is ++ (digits (get_or r 4 0)
      ++ (degrees_are ++ (digits (get_or r 5 0) ++ (blank ++ (digits (get_or r 6 0) ++ (NIs ++ (digits (get_or r 7 0) ++ no_age))))))))))
  unfolding formed told piece marked value_of after width is_mark counted hexed kind_field
  plain_form = refl

  aged-form : formed 1 kind_forms r r n 0 ≡ (10 ∷ request_is) ++ (digits (length r) ++ (hexed bytes_kind (kind_field r) ++ (form_is ++ (digits (get_or r 4 0)
      ++ (degrees_are ++ (digits (get_or r 5 0) ++ (blank ++ (digits (get_or r 6 0) ++ (NIs ++ (digits (get_or r 7 0) ++ (age_is ++ digits n ++ milliseconds)))))))))))
  unfolding formed told piece marked value_of after width is_mark counted hexed kind_field
  aged-form = refl

  plain-text : formed 0 kind_forms r r n 0 ≡ opening r ++ (head_text r ++ no_age)
  plain-text = plain_form ∙ rw (head-parts no_age) (opened (head_text r ++ no_age))

  aged-text : n ≡ word_at r start → formed 1 kind_forms r r n 0 ≡ opening r ++ (head_text r ++ counted age_is (word_at r start) ++ milliseconds)
  unfolding counted
  aged-text e =
      aged-form
      ∙ rw (head-parts (age_is ++ digits n ++ milliseconds)) (opened (head_text r ++ (age_is ++ digits n ++ milliseconds)))
      ∙ ap (λ (l : List ℕ). opening r ++ l)
      (sym (append_assoc (head_text r) (age_is ++ digits n) milliseconds) ∙ rw e)

  short-text : formed 2 kind_forms r r n 0 ≡ opening r ++ too_short
  unfolding formed told piece marked value_of after width is_mark counted hexed kind_field
  short-text = opened too_short

  none-text : formed 3 kind_forms r r n 0 ≡ opening r ++ no_request
  unfolding formed told piece marked value_of after width is_mark counted hexed kind_field
  none-text = opened no_request

  module _ (age : n ≡ word_at r start) where
    end_of : (t u v : Bool) (k : ℕ) → k ≡ cond t 0 (cond u (cond v 2 1) 3) → 1 < k
        → formed k kind_forms r r n 0 ≡ opening r ++ cond t (plain_text r) (cond u (cond v too_short (aged_text r)) no_request)
    end_of true u v k e l = absurd (omega arith)
    end_of false true true k e l = rw e short-text
    end_of false true false k e l = absurd (omega arith)
    end_of false false v k e l = rw e none-text

    on_of : (t u v : Bool) (k : ℕ) → k ≡ cond t 0 (cond u (cond v 2 1) 3) → k ≤ 1
        → formed k kind_forms r r n 0 ++ wish_text r (8 + 2 * k) (head_in r)
        ≡ opening r ++ cond t (plain_text r) (cond u (cond v too_short (aged_text r)) no_request)
    unfolding plain_text aged_text
    on_of true u v k e l = rw (e, plain-text) (append_assoc (opening r) (head_text r ++ no_age) (wish_text r start (head_in r)))
    on_of false true true k e l = absurd (omega arith)
    on_of false true false k e l =
        rw (e, aged-text age)
        (append_assoc (opening r) (head_text r ++ counted age_is (word_at r start) ++ milliseconds) (wish_text r aged_start (head_in r)))
    on_of false false v k e l = absurd (omega arith)

    pub kind-end : (k : ℕ) → k ≡ kind_of r → 1 < k → formed k kind_forms r r n 0 ≡ opening r ++ kind_text r
    unfolding kind_of kind_text
    kind-end k e l = end_of (eqb (kind_field r) request_kind) (eqb (kind_field r) aged_kind) (ltb (length r) aged_start) k e l

    pub kind-on : (k : ℕ) → k ≡ kind_of r → k ≤ 1 → formed k kind_forms r r n 0 ++ wish_text r (8 + 2 * k) (head_in r) ≡ opening r ++ kind_text r
    unfolding kind_of kind_text
    kind-on k e l = on_of (eqb (kind_field r) request_kind) (eqb (kind_field r) aged_kind) (ltb (length r) aged_start) k e l

-- bytes with no mark among them
unmarked : (mark k : ℕ) (l : List ℕ) → k + length l < mark → marked_text mark k l ≡ bytes_text l
unfolding marked_text bytes_text last_text gap_of
unmarked mark k [] m =
    rw (ne_eqb k mark (λ e. omega arith), ne_eqb k (suc mark) (λ e. omega arith))
unmarked mark k (b ∷ l) m =
    rw (ne_eqb k mark (λ e. omega arith), ne_eqb k (suc mark) (λ e. omega arith), unmarked mark (suc k) l (omega arith))

request-parts : (n a k w b e : List ℕ) → n ++ a ++ k ++ (w ++ b ++ e) ≡ n ++ (a ++ k ++ w ++ b ++ e)
request-parts n a k w b e = simp append_assoc

request-told : (r : List ℕ) (mark : ℕ) → length r < mark → opening r ++ kind_text r ++ line_text bytes_are mark r ≡ newline ++ request_text r
unfolding request_text line_text
request-told r mark l =
    rw (unmarked mark 0 r (omega arith))
    (request-parts newline (counted request_is (length r) ++ hexed bytes_kind (kind_field r)) (kind_text r) bytes_are (bytes_text r) newline)

-- ---- the replies

module _ (r : List ℕ) (k : ℕ) (is : k ≡ word_at r 2) where
  pub answer-none : (k ≡ reply_kind → ⊥) → no_reply ≡ answer_text r
  unfolding answer_text kind_field
  answer-none e = rw (← is, ne_eqb k reply_kind e)

  module _ (right : k ≡ reply_kind) (n : ℕ) (also : n ≡ get_or r 4 0) where
    pub answer-accepted : n ≡ 0 → accepted ≡ answer_text r
    unfolding answer_text kind_field
    answer-accepted e = rw (← is, eq-eqb k reply_kind right, ← also, eq-eqb n 0 e)

    pub answer-refused : (n ≡ 0 → ⊥) → counted refused_by n ++ blank ++ name_of n ≡ answer_text r
    unfolding answer_text kind_field refusal_text
    answer-refused e = rw (← is, eq-eqb k reply_kind right, ← also, ne_eqb n 0 e)

heads-parts : (r s x b y k l m : List ℕ) → r ++ s ++ (x ++ (b ++ (y ++ (k ++ (l ++ m))))) ≡ r ++ (s ++ x ++ (b ++ y)) ++ k ++ l ++ m
heads-parts r s x b y k l m = simp append_assoc

heads-text : (a b : List ℕ) → formed 0 table_form a b 0 0 ≡ heads_text a b ++ answers_are
unfolding formed told piece marked value_of after width is_mark counted hexed heads_text both_text kind_field
heads-text a b =
    heads-parts reply_is sizes (digits (length a)) bar (digits (length b)) (hexed kinds (kind_field a)) (hexed bar_kind (kind_field b)) answers_are

places-parts : (a b c d e f g h : List ℕ)
    → a ++ (b ++ (c ++ (d ++ (e ++ (f ++ (g ++ (h ++ []))))))) ≡ a ++ b ++ (c ++ d) ++ (e ++ f ++ (g ++ h))
places-parts a b c d e f g h = simp (append_assoc, append-nil)

places-text : (a b : List ℕ) → formed 0 places_form a b 0 0 ≡ both_text places_are (get_or a 5 0) (get_or b 5 0) ++ both_text counts_are (get_or a 6 0) (get_or b 6 0)
unfolding formed told piece marked value_of after width is_mark counted both_text
places-text a b =
    places-parts places_are (digits (get_or a 5 0)) bar (digits (get_or b 5 0)) counts_are (digits (get_or a 6 0)) bar (digits (get_or b 6 0))

table-parts : (h w a b c p q r : List ℕ) → h ++ w ++ a ++ b ++ c ++ (p ++ q) ++ r ≡ h ++ (w ++ a ++ b ++ c ++ p ++ q) ++ r
table-parts h w a b c p q r = simp append_assoc

pub table-told : (a b : List ℕ) (m n c : ℕ) → m ≡ point_count a → n ≡ point_count b → c ≡ max m n
    → formed 0 table_form a b 0 0 ++ answer_text a ++ bar ++ answer_text b ++ formed 0 places_form a b 0 0 ++ rows_text a b 0 c
    ≡ heads_text a b ++ places_text a b ++ rows_text a b 0 (max (point_count a) (point_count b))
unfolding places_text answers_text
table-told a b m n c p q e =
    rw (heads-text a b, places-text a b, e, p, q)
    (table-parts (heads_text a b) answers_are (answer_text a) bar (answer_text b) (both_text places_are (get_or a 5 0) (get_or b 5 0))
    (both_text counts_are (get_or a 6 0) (get_or b 6 0)) (rows_text a b 0 (max (point_count a) (point_count b))))

-- a row, by which of the replies lack its point
module _ (a b : List ℕ) (k : ℕ) where
  row-of : (t u : Bool) → formed (cond t 0 1 + 2 * cond u 0 1) row_forms a b k (8 + 2 * k)
      ≡ counted point_is k ++ cond t (numbered gap (number_at a start k)) (gap ++ dash) ++ cond u (numbered bar (number_at b start k)) (bar ++ dash)
  unfolding formed told piece marked value_of after width is_mark counted numbered number_at
  row-of true true = three-parts point_is (digits k) gap (decimal (number_at a start k)) bar (decimal (number_at b start k)) [] ∙ append-nil _
  row-of true false = three-parts point_is (digits k) gap (decimal (number_at a start k)) bar dash [] ∙ append-nil _
  row-of false true = three-parts point_is (digits k) gap dash bar (decimal (number_at b start k)) [] ∙ append-nil _
  row-of false false = three-parts point_is (digits k) gap dash bar dash [] ∙ append-nil _

  row_told : (f g : ℕ) → f ≡ lacks a k → g ≡ lacks b k → formed (f + 2 * g) row_forms a b k (8 + 2 * k) ≡ row_text a b k
  unfolding lacks row_text point_text
  row_told f g e h = rw (e, h) (row-of (ltb k (point_count a)) (ltb k (point_count b)))

-- a truth as a byte
pub as_byte : (t : Bool) → bool_byte t ≡ cond t 1 0
as_byte true = refl
as_byte false = refl

pub rows_all : (a b : List ℕ) (count : ℕ) → rows_text a b 0 (count - 0) ≡ rows_text a b 0 count
rows_all a b count = let all : count - 0 ≡ count = omega arith in ap (λ (n : ℕ). rows_text a b 0 n) all

pub row_next : (a b : List ℕ) (count k f g : ℕ) → k < count → f ≡ lacks a k → g ≡ lacks b k
    → rows_text a b k (count - k) ≡ formed (f + 2 * g) row_forms a b k (8 + 2 * k) ++ rows_text a b (k + 1) (count - (k + 1))
unfolding rows_text
row_next a b count k f g l e h =
    let more : count - k ≡ suc (count - (k + 1)) = omega arith in
    rw (row_told a b k f g e h, more, add-one k)

pub rows-over : (a b : List ℕ) (count k : ℕ) → count ≤ k → rows_text a b k (count - k) ≡ []
unfolding rows_text
rows-over a b count k l = let none : count - k ≡ 0 = omega arith in rw none

-- ---- the bytes, the first that differs in brackets

pub line_word : (word : List ℕ) (mark : ℕ) (l : List ℕ) → line_text word mark l ≡ word ++ (marked_text mark 0 l ++ newline)
unfolding line_text
line_word word mark l = append_assoc word (marked_text mark 0 l) newline

pub mark-next : (mark : ℕ) (l : List ℕ) (k g b : ℕ) → k < length l → g ≡ gap_of mark k → b ≡ get_or l k 0
    → marked_text mark k (drop k l) ++ newline ≡ byte_shown g b ++ (marked_text mark (k + 1) (drop (k + 1) l) ++ newline)
unfolding marked_text byte_shown
mark-next mark l k g b m p q = rw (drop-cons l k 0 m, p, q, add-one k)

pub marks-over : (mark : ℕ) (l : List ℕ) (k : ℕ) (last : List ℕ) → k ≡ length l → last ≡ last_text mark (length l) ++ newline
    → marked_text mark k (drop k l) ++ newline ≡ last ++ []
unfolding marked_text
marks-over mark l k last m e = rw (drop_of_length-le l {i = k} (omega arith), m, append-nil, e) refl

module _ (a b : List ℕ) (d : ℕ) (is : d ≡ first_difference a b) where
  pub in-neither : max (length a) (length b) ≤ d → 10 ∷ the_same ≡ newline ++ end_text a b
  unfolding end_text
  in-neither l = rw (← is, le-ltb d (length a) (omega arith), le-ltb d (length b) (omega arith))

  either : (t u : Bool) (l : List ℕ) → (t ≡ false → u ≡ false → ⊥) → cond t l (cond u l the_same) ≡ l
  either true u l f = refl
  either false true l f = refl
  either false false l f = absurd (f refl refl)

  differ-text : formed 0 differ_form a b d 0 ≡ counted differ_at d ++ from_nought
  unfolding formed told piece marked value_of after width is_mark counted
  differ-text = refl

  marks-parts : (n l m c f : List ℕ) → n ++ l ++ m ++ (c ++ f) ≡ n ++ (l ++ m ++ c ++ f)
  marks-parts n l m c f = simp append_assoc

  first-line : line_text (10 ∷ recorded_is) d a ≡ newline ++ line_text recorded_is d a
  unfolding line_text
  first-line = refl

  pub in_either : d < max (length a) (length b)
      → line_text (10 ∷ recorded_is) d a ++ line_text today_is d b ++ formed 0 differ_form a b d 0 ≡ newline ++ end_text a b
  unfolding end_text marks_text
  in_either l =
      rw (
        ← is,
        either (ltb d (length a)) (ltb d (length b)) (line_text recorded_is d a ++ line_text today_is d b ++ counted differ_at d ++ from_nought)
            (λ e f. let x : length a ≤ d = ltb-false d (length a) e in let y : length b ≤ d = ltb-false d (length b) f in omega arith),
        first-line,
        differ-text,
      )
      (marks-parts newline (line_text recorded_is d a) (line_text today_is d b) (counted differ_at d) from_nought)

-- ---- the page

page-parts : (t n r b e : List ℕ) → t ++ (n ++ r) ++ b ++ (n ++ e) ≡ t ++ n ++ r ++ (b ++ n) ++ e
page-parts t n r b e = simp append_assoc

pub page-told : (number offset : ℕ) (r a b : List ℕ) (mark : ℕ) → length r < mark
    → title_of number offset ++ (opening r ++ kind_text r) ++ line_text bytes_are mark r
    ++ (heads_text a b ++ places_text a b ++ rows_text a b 0 (max (point_count a) (point_count b))) ++ (newline ++ end_text a b)
    ≡ shown_page number offset r a b
unfolding shown_page table_text
page-told number offset r a b mark l =
    rw (append_assoc (title_of number offset) (opening r ++ kind_text r) (line_text bytes_are mark r), request-told r mark l)
    (page-parts (title_of number offset) newline (request_text r)
    (heads_text a b ++ places_text a b ++ rows_text a b 0 (max (point_count a) (point_count b))) (end_text a b))
