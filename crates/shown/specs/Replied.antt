-- The recorded reply and today's, side by side, and their bytes, the first that differs in brackets. Assumes nothing.
use Rattle.std.specs.Prelude.{cond, List, [], ◌∷◌, ◌++◌, ℕ, zero, suc, ◌+◌, ◌*◌, max, eqb, ltb, length, get_or}
use Rattle.wire.specs.Words.{number_at}
use Rattle.wire.specs.Start.{kind_field, start}
use Rattle.replies.specs.Reply.{reply_kind}
use Rattle.names.specs.Names.{name_of}
use Rattle.page.specs.Page.{counted, numbered, hexed, byte_shown}
use Rattle.shown.specs.entries.Entry.{first_difference}
use Rattle.shown.specs.Text.{newline, blank, bar, dash, reply_is, sizes, kinds, bar_kind, answers_are, places_are, counts_are, point_is, gap}
use Rattle.shown.specs.Text.{accepted, refused_by, no_reply, the_same, recorded_is, today_is, differ_at, from_nought, close_mark, empty_mark}

-- how many points a reply has: none where it is a refusal, or not as long as its count says
unfoldable pub point_count : List ℕ → ℕ
point_count r =
    cond (eqb (kind_field r) reply_kind)
    (cond (eqb (get_or r 4 0) 0) (cond (eqb (start + 2 * get_or r 6 0) (length r)) (get_or r 6 0) 0) 0) 0

-- `accepted`, `refused N NAME`, or `not a reply`
unfoldable pub refusal_text : ℕ → List ℕ
refusal_text n = counted refused_by n ++ blank ++ name_of n

unfoldable pub answer_text : List ℕ → List ℕ
answer_text r = cond (eqb (kind_field r) reply_kind) (cond (eqb (get_or r 4 0) 0) accepted (refusal_text (get_or r 4 0))) no_reply

unfoldable pub both_text : List ℕ → ℕ → ℕ → List ℕ
both_text word a b = counted word a ++ counted bar b

-- what each reply is: its length, its kind, its answer, its place and its count
unfoldable pub heads_text : List ℕ → List ℕ → List ℕ
heads_text a b = reply_is ++ both_text sizes (length a) (length b) ++ hexed kinds (kind_field a) ++ hexed bar_kind (kind_field b)

unfoldable pub answers_text : List ℕ → List ℕ → List ℕ
answers_text a b = answers_are ++ answer_text a ++ bar ++ answer_text b

unfoldable pub places_text : List ℕ → List ℕ → List ℕ
places_text a b =
    answers_text a b ++ both_text places_are (get_or a 5 0) (get_or b 5 0) ++ both_text counts_are (get_or a 6 0) (get_or b 6 0)

-- a point behind a word; a reply that has no such point has a dash
unfoldable pub point_text : List ℕ → List ℕ → ℕ → List ℕ
point_text word r k = cond (ltb k (point_count r)) (numbered word (number_at r start k)) (word ++ dash)

unfoldable pub row_text : List ℕ → List ℕ → ℕ → List ℕ
row_text a b k = counted point_is k ++ point_text gap a k ++ point_text bar b k

-- n rows from point k on
unfoldable pub rows_text : List ℕ → List ℕ → ℕ → ℕ → List ℕ
rows_text a b k zero = []
rows_text a b k (suc n) = row_text a b k ++ rows_text a b (suc k) n

unfoldable pub table_text : List ℕ → List ℕ → List ℕ
table_text a b = heads_text a b ++ places_text a b ++ rows_text a b 0 (max (point_count a) (point_count b)) ++ newline

-- bytes from number k on, the one at the mark in brackets; a mark behind the last holds none
unfoldable pub gap_of : ℕ → ℕ → ℕ
gap_of mark k = cond (eqb k mark) 91 (cond (eqb k (suc mark)) 93 32)

unfoldable pub last_text : ℕ → ℕ → List ℕ
last_text mark k = cond (eqb k mark) empty_mark (cond (eqb k (suc mark)) close_mark [])

unfoldable pub marked_text : ℕ → ℕ → List ℕ → List ℕ
marked_text mark k [] = last_text mark k
marked_text mark k (b ∷ l) = byte_shown (gap_of mark k) b ++ marked_text mark (suc k) l

unfoldable pub line_text : List ℕ → ℕ → List ℕ → List ℕ
line_text word mark l = word ++ marked_text mark 0 l ++ newline

unfoldable pub marks_text : ℕ → List ℕ → List ℕ → List ℕ
marks_text d a b = line_text recorded_is d a ++ line_text today_is d b ++ counted differ_at d ++ from_nought

-- they are the same where neither has a byte at which they differ
unfoldable pub end_text : List ℕ → List ℕ → List ℕ
end_text a b =
    let d = first_difference a b in
    cond (ltb d (length a)) (marks_text d a b) (cond (ltb d (length b)) (marks_text d a b) the_same)
