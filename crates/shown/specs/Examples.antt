-- The page that docs/TRACES.md shows, worked through the definitions. Assumes nothing.
use Rattle.std.specs.Prelude.{◌≡◌, refl, [], ◌∷◌}
use Rattle.request.specs.Head.{by_form, surface_count, path_count, numbers, degree}
use Rattle.request.specs.Refusal.{not_kind, not_degree}
use Rattle.wire.specs.Words.{word_at, signed, number_at}
use Rattle.wire.specs.Start.{kind_field}
use Rattle.spell.specs.Decimal.{digits_of, digits, decimal}
use Rattle.judgement.specs.Record.{head_in, path_start, body_end}
use Rattle.page.specs.Page.{counted, numbered, hex_digit, hexed, byte_shown}
use Rattle.shown.specs.entries.Entry.{title_of, first_difference}
use Rattle.shown.specs.Asked.{head_text, numbers_text, lists_text, body_text, wish_text, aged_text, kind_text, bytes_text, request_text}
use Rattle.shown.specs.Replied.{point_count, answer_text, answers_text, both_text, heads_text, places_text, point_text, row_text, rows_text, table_text}
use Rattle.shown.specs.Replied.{gap_of, last_text, marked_text, line_text, marks_text, end_text}
use Rattle.shown.specs.Page.{shown_page}

pub shown : shown_page 20 724
    (34 ∷ 0 ∷ 2 ∷ 0 ∷ 2 ∷ 0 ∷ 1 ∷ 4 ∷ 249 ∷ 0 ∷ 106 ∷ 240 ∷ 6 ∷ 244 ∷ 0 ∷ 4 ∷ 0 ∷ 3 ∷ 0 ∷ 1 ∷ 0 ∷ 4 ∷ 0 ∷ 0 ∷ 0 ∷ 0 ∷ 0 ∷ 2 ∷ 0 ∷ 2 ∷ 0
    ∷ 3 ∷ 0 ∷ 0 ∷ [])
    (18 ∷ 0 ∷ 1 ∷ 128 ∷ 0 ∷ 0 ∷ 5 ∷ 0 ∷ 31 ∷ 243 ∷ 6 ∷ 244 ∷ 106 ∷ 240 ∷ 56 ∷ 243 ∷ 106 ∷ 240 ∷ [])
    (18 ∷ 0 ∷ 1 ∷ 128 ∷ 0 ∷ 0 ∷ 5 ∷ 0 ∷ 31 ∷ 243 ∷ 6 ∷ 244 ∷ 106 ∷ 240 ∷ 56 ∷ 242 ∷ 106 ∷ 240 ∷ [])
    ≡ 112 ∷ 97 ∷ 105 ∷ 114 ∷ 32 ∷ 50 ∷ 48 ∷ 32 ∷ 97 ∷ 116 ∷ 32 ∷ 98 ∷ 121 ∷ 116 ∷ 101 ∷ 32 ∷ 55 ∷ 50 ∷ 52 ∷ 10 ∷ 114 ∷ 101 ∷ 113 ∷ 117
    ∷ 101 ∷ 115 ∷ 116 ∷ 32 ∷ 32 ∷ 32 ∷ 51 ∷ 52 ∷ 32 ∷ 98 ∷ 121 ∷ 116 ∷ 101 ∷ 115 ∷ 44 ∷ 32 ∷ 107 ∷ 105 ∷ 110 ∷ 100 ∷ 32 ∷ 48 ∷ 120 ∷ 48
    ∷ 48 ∷ 48 ∷ 50 ∷ 58 ∷ 32 ∷ 102 ∷ 111 ∷ 114 ∷ 109 ∷ 32 ∷ 50 ∷ 44 ∷ 32 ∷ 100 ∷ 101 ∷ 103 ∷ 114 ∷ 101 ∷ 101 ∷ 115 ∷ 32 ∷ 48 ∷ 32 ∷ 49
    ∷ 44 ∷ 32 ∷ 78 ∷ 32 ∷ 52 ∷ 44 ∷ 32 ∷ 97 ∷ 103 ∷ 101 ∷ 32 ∷ 50 ∷ 52 ∷ 57 ∷ 32 ∷ 109 ∷ 115 ∷ 10 ∷ 32 ∷ 32 ∷ 99 ∷ 111 ∷ 110 ∷ 116 ∷ 114
    ∷ 111 ∷ 108 ∷ 32 ∷ 118 ∷ 97 ∷ 108 ∷ 117 ∷ 101 ∷ 115 ∷ 32 ∷ 105 ∷ 110 ∷ 32 ∷ 48 ∷ 46 ∷ 48 ∷ 49 ∷ 32 ∷ 109 ∷ 109 ∷ 58 ∷ 32 ∷ 45 ∷ 51
    ∷ 57 ∷ 57 ∷ 48 ∷ 32 ∷ 45 ∷ 51 ∷ 48 ∷ 54 ∷ 54 ∷ 10 ∷ 32 ∷ 32 ∷ 112 ∷ 97 ∷ 116 ∷ 104 ∷ 32 ∷ 105 ∷ 110 ∷ 32 ∷ 49 ∷ 47 ∷ 49 ∷ 48 ∷ 50
    ∷ 52 ∷ 58 ∷ 32 ∷ 49 ∷ 48 ∷ 50 ∷ 52 ∷ 32 ∷ 55 ∷ 54 ∷ 56 ∷ 32 ∷ 50 ∷ 53 ∷ 54 ∷ 32 ∷ 49 ∷ 48 ∷ 50 ∷ 52 ∷ 32 ∷ 48 ∷ 32 ∷ 48 ∷ 32 ∷ 53
    ∷ 49 ∷ 50 ∷ 32 ∷ 53 ∷ 49 ∷ 50 ∷ 32 ∷ 55 ∷ 54 ∷ 56 ∷ 32 ∷ 48 ∷ 10 ∷ 32 ∷ 32 ∷ 98 ∷ 121 ∷ 116 ∷ 101 ∷ 115 ∷ 58 ∷ 32 ∷ 50 ∷ 50 ∷ 32
    ∷ 48 ∷ 48 ∷ 32 ∷ 48 ∷ 50 ∷ 32 ∷ 48 ∷ 48 ∷ 32 ∷ 48 ∷ 50 ∷ 32 ∷ 48 ∷ 48 ∷ 32 ∷ 48 ∷ 49 ∷ 32 ∷ 48 ∷ 52 ∷ 32 ∷ 102 ∷ 57 ∷ 32 ∷ 48 ∷ 48
    ∷ 32 ∷ 54 ∷ 97 ∷ 32 ∷ 102 ∷ 48 ∷ 32 ∷ 48 ∷ 54 ∷ 32 ∷ 102 ∷ 52 ∷ 32 ∷ 48 ∷ 48 ∷ 32 ∷ 48 ∷ 52 ∷ 32 ∷ 48 ∷ 48 ∷ 32 ∷ 48 ∷ 51 ∷ 32 ∷ 48
    ∷ 48 ∷ 32 ∷ 48 ∷ 49 ∷ 32 ∷ 48 ∷ 48 ∷ 32 ∷ 48 ∷ 52 ∷ 32 ∷ 48 ∷ 48 ∷ 32 ∷ 48 ∷ 48 ∷ 32 ∷ 48 ∷ 48 ∷ 32 ∷ 48 ∷ 48 ∷ 32 ∷ 48 ∷ 48 ∷ 32
    ∷ 48 ∷ 50 ∷ 32 ∷ 48 ∷ 48 ∷ 32 ∷ 48 ∷ 50 ∷ 32 ∷ 48 ∷ 48 ∷ 32 ∷ 48 ∷ 51 ∷ 32 ∷ 48 ∷ 48 ∷ 32 ∷ 48 ∷ 48 ∷ 10 ∷ 114 ∷ 101 ∷ 112 ∷ 108
    ∷ 121 ∷ 32 ∷ 32 ∷ 32 ∷ 32 ∷ 32 ∷ 32 ∷ 114 ∷ 101 ∷ 99 ∷ 111 ∷ 114 ∷ 100 ∷ 101 ∷ 100 ∷ 32 ∷ 124 ∷ 32 ∷ 116 ∷ 111 ∷ 100 ∷ 97 ∷ 121 ∷ 32
    ∷ 40 ∷ 112 ∷ 111 ∷ 105 ∷ 110 ∷ 116 ∷ 115 ∷ 32 ∷ 105 ∷ 110 ∷ 32 ∷ 48 ∷ 46 ∷ 48 ∷ 49 ∷ 32 ∷ 109 ∷ 109 ∷ 41 ∷ 10 ∷ 32 ∷ 32 ∷ 98 ∷ 121
    ∷ 116 ∷ 101 ∷ 115 ∷ 32 ∷ 32 ∷ 32 ∷ 32 ∷ 49 ∷ 56 ∷ 32 ∷ 124 ∷ 32 ∷ 49 ∷ 56 ∷ 10 ∷ 32 ∷ 32 ∷ 107 ∷ 105 ∷ 110 ∷ 100 ∷ 32 ∷ 32 ∷ 32 ∷ 32
    ∷ 32 ∷ 48 ∷ 120 ∷ 56 ∷ 48 ∷ 48 ∷ 49 ∷ 32 ∷ 124 ∷ 32 ∷ 48 ∷ 120 ∷ 56 ∷ 48 ∷ 48 ∷ 49 ∷ 10 ∷ 32 ∷ 32 ∷ 97 ∷ 110 ∷ 115 ∷ 119 ∷ 101 ∷ 114
    ∷ 32 ∷ 32 ∷ 32 ∷ 97 ∷ 99 ∷ 99 ∷ 101 ∷ 112 ∷ 116 ∷ 101 ∷ 100 ∷ 32 ∷ 124 ∷ 32 ∷ 97 ∷ 99 ∷ 99 ∷ 101 ∷ 112 ∷ 116 ∷ 101 ∷ 100 ∷ 10 ∷ 32
    ∷ 32 ∷ 112 ∷ 108 ∷ 97 ∷ 99 ∷ 101 ∷ 32 ∷ 32 ∷ 32 ∷ 32 ∷ 48 ∷ 32 ∷ 124 ∷ 32 ∷ 48 ∷ 10 ∷ 32 ∷ 32 ∷ 99 ∷ 111 ∷ 117 ∷ 110 ∷ 116 ∷ 32 ∷ 32
    ∷ 32 ∷ 32 ∷ 53 ∷ 32 ∷ 124 ∷ 32 ∷ 53 ∷ 10 ∷ 32 ∷ 32 ∷ 112 ∷ 111 ∷ 105 ∷ 110 ∷ 116 ∷ 32 ∷ 48 ∷ 32 ∷ 32 ∷ 45 ∷ 51 ∷ 50 ∷ 57 ∷ 55 ∷ 32
    ∷ 124 ∷ 32 ∷ 45 ∷ 51 ∷ 50 ∷ 57 ∷ 55 ∷ 10 ∷ 32 ∷ 32 ∷ 112 ∷ 111 ∷ 105 ∷ 110 ∷ 116 ∷ 32 ∷ 49 ∷ 32 ∷ 32 ∷ 45 ∷ 51 ∷ 48 ∷ 54 ∷ 54 ∷ 32
    ∷ 124 ∷ 32 ∷ 45 ∷ 51 ∷ 48 ∷ 54 ∷ 54 ∷ 10 ∷ 32 ∷ 32 ∷ 112 ∷ 111 ∷ 105 ∷ 110 ∷ 116 ∷ 32 ∷ 50 ∷ 32 ∷ 32 ∷ 45 ∷ 51 ∷ 57 ∷ 57 ∷ 48 ∷ 32
    ∷ 124 ∷ 32 ∷ 45 ∷ 51 ∷ 57 ∷ 57 ∷ 48 ∷ 10 ∷ 32 ∷ 32 ∷ 112 ∷ 111 ∷ 105 ∷ 110 ∷ 116 ∷ 32 ∷ 51 ∷ 32 ∷ 32 ∷ 45 ∷ 51 ∷ 50 ∷ 55 ∷ 50 ∷ 32
    ∷ 124 ∷ 32 ∷ 45 ∷ 51 ∷ 53 ∷ 50 ∷ 56 ∷ 10 ∷ 32 ∷ 32 ∷ 112 ∷ 111 ∷ 105 ∷ 110 ∷ 116 ∷ 32 ∷ 52 ∷ 32 ∷ 32 ∷ 45 ∷ 51 ∷ 57 ∷ 57 ∷ 48 ∷ 32
    ∷ 124 ∷ 32 ∷ 45 ∷ 51 ∷ 57 ∷ 57 ∷ 48 ∷ 10 ∷ 114 ∷ 101 ∷ 99 ∷ 111 ∷ 114 ∷ 100 ∷ 101 ∷ 100 ∷ 32 ∷ 32 ∷ 49 ∷ 50 ∷ 32 ∷ 48 ∷ 48 ∷ 32 ∷ 48
    ∷ 49 ∷ 32 ∷ 56 ∷ 48 ∷ 32 ∷ 48 ∷ 48 ∷ 32 ∷ 48 ∷ 48 ∷ 32 ∷ 48 ∷ 53 ∷ 32 ∷ 48 ∷ 48 ∷ 32 ∷ 49 ∷ 102 ∷ 32 ∷ 102 ∷ 51 ∷ 32 ∷ 48 ∷ 54 ∷ 32
    ∷ 102 ∷ 52 ∷ 32 ∷ 54 ∷ 97 ∷ 32 ∷ 102 ∷ 48 ∷ 32 ∷ 51 ∷ 56 ∷ 91 ∷ 102 ∷ 51 ∷ 93 ∷ 54 ∷ 97 ∷ 32 ∷ 102 ∷ 48 ∷ 10 ∷ 116 ∷ 111 ∷ 100 ∷ 97
    ∷ 121 ∷ 32 ∷ 32 ∷ 32 ∷ 32 ∷ 32 ∷ 49 ∷ 50 ∷ 32 ∷ 48 ∷ 48 ∷ 32 ∷ 48 ∷ 49 ∷ 32 ∷ 56 ∷ 48 ∷ 32 ∷ 48 ∷ 48 ∷ 32 ∷ 48 ∷ 48 ∷ 32 ∷ 48 ∷ 53
    ∷ 32 ∷ 48 ∷ 48 ∷ 32 ∷ 49 ∷ 102 ∷ 32 ∷ 102 ∷ 51 ∷ 32 ∷ 48 ∷ 54 ∷ 32 ∷ 102 ∷ 52 ∷ 32 ∷ 54 ∷ 97 ∷ 32 ∷ 102 ∷ 48 ∷ 32 ∷ 51 ∷ 56 ∷ 91
    ∷ 102 ∷ 50 ∷ 93 ∷ 54 ∷ 97 ∷ 32 ∷ 102 ∷ 48 ∷ 10 ∷ 116 ∷ 104 ∷ 101 ∷ 121 ∷ 32 ∷ 100 ∷ 105 ∷ 102 ∷ 102 ∷ 101 ∷ 114 ∷ 32 ∷ 97 ∷ 116 ∷ 32
    ∷ 98 ∷ 121 ∷ 116 ∷ 101 ∷ 32 ∷ 49 ∷ 53 ∷ 44 ∷ 32 ∷ 99 ∷ 111 ∷ 117 ∷ 110 ∷ 116 ∷ 101 ∷ 100 ∷ 32 ∷ 102 ∷ 114 ∷ 111 ∷ 109 ∷ 32 ∷ 48 ∷ 10 ∷ []
unfolding shown_page title_of request_text head_text numbers_text lists_text body_text wish_text aged_text kind_text bytes_text table_text point_count answer_text
    answers_text both_text
    heads_text places_text point_text row_text rows_text gap_of last_text marked_text line_text marks_text end_text first_difference kind_field word_at number_at signed
    counted numbered hexed hex_digit byte_shown decimal digits digits_of head_in path_start body_end by_form surface_count path_count numbers degree not_kind not_degree
shown = refl
