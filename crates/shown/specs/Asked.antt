-- A request in words: its kind, form, degrees, age, control values and path, as far as it has them, and its bytes. Assumes nothing.
use Rattle.std.specs.Prelude.{cond, List, [], ◌∷◌, ◌++◌, ℕ, zero, suc, eqb, ltb, length, get_or}
use Rattle.request.specs.declared.Head.{Head}
use Rattle.request.specs.Head.{surface_count, path_count}
use Rattle.request.specs.Refusal.{not_kind, not_degree}
use Rattle.wire.specs.Words.{word_at, number_at}
use Rattle.wire.specs.Start.{kind_field, start}
use Rattle.judgement.specs.Record.{request_kind, aged_kind, aged_start, head_in, path_start, body_end}
use Rattle.page.specs.Page.{counted, numbered, hexed, byte_shown}
use Rattle.shown.specs.Text.{newline, blank, request_is, bytes_kind, form_is, degrees_are, NIs, age_is, milliseconds, no_age, too_short, no_request}
use Rattle.shown.specs.Text.{no_form, no_degree, other_body, values_are, path_is, bytes_are}

-- `: form F, degrees D E, N n`
unfoldable pub head_text : List ℕ → List ℕ
head_text r = counted form_is (get_or r 4 0) ++ counted degrees_are (get_or r 5 0) ++ counted blank (get_or r 6 0) ++ counted NIs (get_or r 7 0)

-- n numbers, each after a blank, from number k of those that begin at a byte
unfoldable pub numbers_text : List ℕ → ℕ → ℕ → ℕ → List ℕ
numbers_text r from k zero = []
numbers_text r from k (suc n) = numbered blank (number_at r from k) ++ numbers_text r from (suc k) n

unfoldable pub lists_text : List ℕ → ℕ → ℕ → ℕ → ℕ → List ℕ
lists_text r from values begin path = values_are ++ numbers_text r from 0 values ++ path_is ++ numbers_text r begin 0 path

-- the control values and the path, of a record whose numbers begin at a byte and which is as long as its degrees say
unfoldable pub body_text : List ℕ → ℕ → Head → List ℕ
body_text r from h =
    cond (eqb (body_end from h) (length r)) (lists_text r from (surface_count h) (path_start from h) (path_count h)) other_body

unfoldable pub wish_text : List ℕ → ℕ → Head → List ℕ
wish_text r from h = cond (not_kind h) no_form (cond (not_degree h) no_degree (body_text r from h))

-- without an age, and with one
unfoldable pub plain_text : List ℕ → List ℕ
plain_text r = head_text r ++ no_age ++ wish_text r start (head_in r)

unfoldable pub aged_text : List ℕ → List ℕ
aged_text r = head_text r ++ counted age_is (word_at r start) ++ milliseconds ++ wish_text r aged_start (head_in r)

unfoldable pub kind_text : List ℕ → List ℕ
kind_text r =
    cond (eqb (kind_field r) request_kind) (plain_text r)
    (cond (eqb (kind_field r) aged_kind) (cond (ltb (length r) aged_start) too_short (aged_text r)) no_request)

-- bytes in hexadecimal digits, each after a blank
unfoldable pub bytes_text : List ℕ → List ℕ
bytes_text [] = []
bytes_text (b ∷ l) = byte_shown 32 b ++ bytes_text l

unfoldable pub request_text : List ℕ → List ℕ
request_text r =
    counted request_is (length r) ++ hexed bytes_kind (kind_field r) ++ kind_text r ++ bytes_are ++ bytes_text r ++ newline
