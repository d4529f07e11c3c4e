-- Lines worked through the definitions: the pair that docs/TRACES.md shows, replies that differ before their points, and the three ways in
-- which a reading ends. Assumes nothing.
use Rattle.std.specs.Prelude.{◌≡◌, refl, List, [], ◌∷◌, ◌++◌, ℕ, replicate}
use Rattle.wire.specs.Words.{word_at, signed, number_at}
use Rattle.wire.specs.Start.{kind_field, length_field, is_length, behind}
use Rattle.spell.specs.Decimal.{digits_of, digits, decimal}
use Rattle.page.specs.Page.{counted, numbered, hex_digit, hexed}
use Rattle.shown.specs.entries.Entry.{title_of, asked_of, first_difference, change_of, kind_change, point_change, behind_change, what_differs, entry_line}
use Rattle.shown.specs.entries.Ending.{no_length, cut_off, whole_trace, second_ending, ending_line}

-- `pair 20 at byte 724: request kind 0x0002 form 2: point 3 is -3272, today -3528`
pub shown : entry_line 20 724
    (34 ∷ 0 ∷ 2 ∷ 0 ∷ 2 ∷ 0 ∷ 1 ∷ 4 ∷ 249 ∷ 0 ∷ 106 ∷ 240 ∷ 6 ∷ 244 ∷ 0 ∷ 4 ∷ 0 ∷ 3 ∷ 0 ∷ 1 ∷ 0 ∷ 4 ∷ 0 ∷ 0 ∷ 0 ∷ 0 ∷ 0 ∷ 2 ∷ 0 ∷ 2 ∷ 0
    ∷ 3 ∷ 0 ∷ 0 ∷ [])
    (18 ∷ 0 ∷ 1 ∷ 128 ∷ 0 ∷ 0 ∷ 5 ∷ 0 ∷ 31 ∷ 243 ∷ 6 ∷ 244 ∷ 106 ∷ 240 ∷ 56 ∷ 243 ∷ 106 ∷ 240 ∷ [])
    (18 ∷ 0 ∷ 1 ∷ 128 ∷ 0 ∷ 0 ∷ 5 ∷ 0 ∷ 31 ∷ 243 ∷ 6 ∷ 244 ∷ 106 ∷ 240 ∷ 56 ∷ 242 ∷ 106 ∷ 240 ∷ [])
    ≡ 112 ∷ 97 ∷ 105 ∷ 114 ∷ 32 ∷ 50 ∷ 48 ∷ 32 ∷ 97 ∷ 116 ∷ 32 ∷ 98 ∷ 121 ∷ 116 ∷ 101 ∷ 32 ∷ 55 ∷ 50 ∷ 52 ∷ 58 ∷ 32 ∷ 114 ∷ 101 ∷ 113
    ∷ 117 ∷ 101 ∷ 115 ∷ 116 ∷ 32 ∷ 107 ∷ 105 ∷ 110 ∷ 100 ∷ 32 ∷ 48 ∷ 120 ∷ 48 ∷ 48 ∷ 48 ∷ 50 ∷ 32 ∷ 102 ∷ 111 ∷ 114 ∷ 109 ∷ 32 ∷ 50 ∷ 58
    ∷ 32 ∷ 112 ∷ 111 ∷ 105 ∷ 110 ∷ 116 ∷ 32 ∷ 51 ∷ 32 ∷ 105 ∷ 115 ∷ 32 ∷ 45 ∷ 51 ∷ 50 ∷ 55 ∷ 50 ∷ 44 ∷ 32 ∷ 116 ∷ 111 ∷ 100 ∷ 97 ∷ 121
    ∷ 32 ∷ 45 ∷ 51 ∷ 53 ∷ 50 ∷ 56 ∷ 10 ∷ []
unfolding entry_line title_of asked_of what_differs behind_change point_change first_difference kind_field word_at number_at signed counted numbered hexed hex_digit
    decimal digits digits_of
shown = refl

-- a reply of so many bytes, by its kind, number, place and count
unfoldable pub replied : ℕ → ℕ → ℕ → ℕ → ℕ → List ℕ
replied size kind number place count = size ∷ 0 ∷ kind ∷ 128 ∷ number ∷ place ∷ count ∷ 0 ∷ []

-- the kind comes before all else, then the number, the place, the count and the length
pub kinds-differ : what_differs (replied 8 1 6 2 0) (replied 10 2 7 3 1)
    ≡ 107 ∷ 105 ∷ 110 ∷ 100 ∷ 32 ∷ 48 ∷ 120 ∷ 56 ∷ 48 ∷ 48 ∷ 49 ∷ 44 ∷ 32 ∷ 116 ∷ 111 ∷ 100 ∷ 97 ∷ 121 ∷ 32 ∷ 48 ∷ 120 ∷ 56 ∷ 48 ∷ 48
    ∷ 50 ∷ []
unfolding what_differs replied kind_change kind_field word_at hexed hex_digit
kinds-differ = refl

pub numbers-differ : what_differs (replied 8 1 6 2 0) (replied 10 1 7 3 1)
    ≡ 110 ∷ 117 ∷ 109 ∷ 98 ∷ 101 ∷ 114 ∷ 32 ∷ 54 ∷ 44 ∷ 32 ∷ 116 ∷ 111 ∷ 100 ∷ 97 ∷ 121 ∷ 32 ∷ 55 ∷ []
unfolding what_differs replied change_of kind_field word_at counted digits digits_of
numbers-differ = refl

pub places-differ : what_differs (replied 8 1 6 2 0) (replied 10 1 6 13 1)
    ≡ 112 ∷ 108 ∷ 97 ∷ 99 ∷ 101 ∷ 32 ∷ 50 ∷ 44 ∷ 32 ∷ 116 ∷ 111 ∷ 100 ∷ 97 ∷ 121 ∷ 32 ∷ 49 ∷ 51 ∷ []
unfolding what_differs replied change_of kind_field word_at counted digits digits_of
places-differ = refl

pub counts-differ : what_differs (replied 8 1 0 0 5) (replied 10 1 0 0 4)
    ≡ 99 ∷ 111 ∷ 117 ∷ 110 ∷ 116 ∷ 32 ∷ 53 ∷ 44 ∷ 32 ∷ 116 ∷ 111 ∷ 100 ∷ 97 ∷ 121 ∷ 32 ∷ 52 ∷ []
unfolding what_differs replied change_of kind_field word_at counted digits digits_of
counts-differ = refl

pub lengths_differ : what_differs (replied 8 1 0 0 1) (replied 10 1 0 0 1 ++ 0 ∷ 0 ∷ [])
    ≡ 108 ∷ 101 ∷ 110 ∷ 103 ∷ 116 ∷ 104 ∷ 32 ∷ 56 ∷ 44 ∷ 32 ∷ 116 ∷ 111 ∷ 100 ∷ 97 ∷ 121 ∷ 32 ∷ 49 ∷ 48 ∷ []
unfolding what_differs replied behind_change change_of kind_field word_at counted digits digits_of
lengths_differ = refl

-- `length 7 at byte 746`; behind a whole record likewise; `cut off at byte 730, in the pair that begins at byte 712`; `the trace ends at
-- byte 712`
pub seven : ending_line 746 3 (7 ∷ 0 ∷ 1 ∷ [])
    ≡ 108 ∷ 101 ∷ 110 ∷ 103 ∷ 116 ∷ 104 ∷ 32 ∷ 55 ∷ 32 ∷ 97 ∷ 116 ∷ 32 ∷ 98 ∷ 121 ∷ 116 ∷ 101 ∷ 32 ∷ 55 ∷ 52 ∷ 54 ∷ 10 ∷ []
unfolding ending_line no_length length_field is_length word_at counted digits digits_of
seven = refl

pub second-seven : ending_line 738 10 (8 ∷ 0 ∷ replicate 6 1 ++ 7 ∷ 0 ∷ [])
    ≡ 108 ∷ 101 ∷ 110 ∷ 103 ∷ 116 ∷ 104 ∷ 32 ∷ 55 ∷ 32 ∷ 97 ∷ 116 ∷ 32 ∷ 98 ∷ 121 ∷ 116 ∷ 101 ∷ 32 ∷ 55 ∷ 52 ∷ 54 ∷ 10 ∷ []
unfolding ending_line second_ending no_length length_field is_length behind word_at counted digits digits_of
second-seven = refl

pub cut_short : ending_line 712 18 (34 ∷ 0 ∷ replicate 16 1)
    ≡ 99 ∷ 117 ∷ 116 ∷ 32 ∷ 111 ∷ 102 ∷ 102 ∷ 32 ∷ 97 ∷ 116 ∷ 32 ∷ 98 ∷ 121 ∷ 116 ∷ 101 ∷ 32 ∷ 55 ∷ 51 ∷ 48 ∷ 44 ∷ 32 ∷ 105 ∷ 110 ∷ 32
    ∷ 116 ∷ 104 ∷ 101 ∷ 32 ∷ 112 ∷ 97 ∷ 105 ∷ 114 ∷ 32 ∷ 116 ∷ 104 ∷ 97 ∷ 116 ∷ 32 ∷ 98 ∷ 101 ∷ 103 ∷ 105 ∷ 110 ∷ 115 ∷ 32 ∷ 97 ∷ 116
    ∷ 32 ∷ 98 ∷ 121 ∷ 116 ∷ 101 ∷ 32 ∷ 55 ∷ 49 ∷ 50 ∷ 10 ∷ []
unfolding ending_line second_ending cut_off length_field is_length word_at counted digits digits_of
cut_short = refl

pub ended : ending_line 712 0 [] ≡ 116 ∷ 104 ∷ 101 ∷ 32 ∷ 116 ∷ 114 ∷ 97 ∷ 99 ∷ 101 ∷ 32 ∷ 101 ∷ 110 ∷ 100 ∷ 115 ∷ 32 ∷ 97 ∷ 116 ∷ 32 ∷ 98 ∷ 121 ∷ 116 ∷ 101 ∷ 32
    ∷ 55 ∷ 49 ∷ 50 ∷ 10 ∷ []
unfolding ending_line whole_trace counted digits digits_of
ended = refl
