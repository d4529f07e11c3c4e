-- A night told through the definitions, with a door that stands in for the real one, so that no surface has to be composed to read it. Three
-- pairs of 17, 22 and 19 bytes, of which the first has today's reply, and a record that is cut off. Assumes nothing.
use Rattle.std.specs.Prelude.{◌≡◌, refl, true, false, List, [], ◌∷◌, ◌++◌, ℕ, get_or}
use Rattle.std.proofs.Common.{ap, ◌∙◌, append-nil}
use Rattle.wire.specs.Words.{word_at}
use Rattle.wire.specs.Start.{kind_field, length_field, is_length, starts_record, record_in, behind}
use Rattle.pairs.specs.Cut.{starts_pair, pair_in, cut_in, cut}
use Rattle.feed.specs.Feed.{Feed, folded, feed_of}
use Rattle.fives.specs.Replay.{same_bytes, agrees}
use Rattle.spell.specs.Decimal.{digits_of, digits}
use Rattle.page.specs.Page.{counted, hex_digit, hexed}
use Rattle.shown.specs.entries.Entry.{title_of, asked_of, change_of, what_differs, entry_line}
use Rattle.shown.specs.entries.Ending.{cut_off, second_ending, ending_line}
use Rattle.shown.specs.Page.{shown_page}
use Rattle.night.specs.listing.Tale.{Tale, on_page, asked, told_of, differing, tells, tale_of, closing, written}

-- a reply of 8 bytes: its number is byte 5 of the request, its place 2, its count 0
unfoldable pub stand_in : List ℕ → List ℕ
stand_in request = 8 ∷ 0 ∷ 1 ∷ 128 ∷ get_or request 5 0 ∷ 2 ∷ 0 ∷ 0 ∷ []

-- the third pair
unfoldable pub request : List ℕ
request = 8 ∷ 0 ∷ 2 ∷ 0 ∷ 2 ∷ 1 ∷ 0 ∷ 0 ∷ []

unfoldable pub reply : List ℕ
reply = 11 ∷ 0 ∷ 1 ∷ 128 ∷ 1 ∷ 2 ∷ 3 ∷ 0 ∷ 0 ∷ 0 ∷ 0 ∷ []

unfoldable pub night : List ℕ
night =
    9 ∷ 0 ∷ 2 ∷ 0 ∷ 1 ∷ 4 ∷ 0 ∷ 0 ∷ 7 ∷ 8 ∷ 0 ∷ 1 ∷ 128 ∷ 4 ∷ 2 ∷ 0 ∷ 0
    ∷ 12 ∷ 0 ∷ 1 ∷ 0 ∷ 3 ∷ 6 ∷ 0 ∷ 0 ∷ 0 ∷ 0 ∷ 0 ∷ 5 ∷ 10 ∷ 0 ∷ 1 ∷ 128 ∷ 5 ∷ 2 ∷ 1 ∷ 0 ∷ 9 ∷ 0
    ∷ request ++ reply ++ 34 ∷ 0 ∷ 2 ∷ []

-- `pair 2 at byte 17: request kind 0x0001 form 3: number 5, today 6` and `pair 3 at byte 39: request kind 0x0002 form 2: count 3, today 0`
unfoldable pub lines : List ℕ
lines =
    112 ∷ 97 ∷ 105 ∷ 114 ∷ 32 ∷ 50 ∷ 32 ∷ 97 ∷ 116 ∷ 32 ∷ 98 ∷ 121 ∷ 116 ∷ 101 ∷ 32 ∷ 49 ∷ 55 ∷ 58 ∷ 32 ∷ 114 ∷ 101 ∷ 113 ∷ 117
    ∷ 101 ∷ 115 ∷ 116 ∷ 32 ∷ 107 ∷ 105 ∷ 110 ∷ 100 ∷ 32 ∷ 48 ∷ 120 ∷ 48 ∷ 48 ∷ 48 ∷ 49 ∷ 32 ∷ 102 ∷ 111 ∷ 114 ∷ 109 ∷ 32 ∷ 51
    ∷ 58 ∷ 32 ∷ 110 ∷ 117 ∷ 109 ∷ 98 ∷ 101 ∷ 114 ∷ 32 ∷ 53 ∷ 44 ∷ 32 ∷ 116 ∷ 111 ∷ 100 ∷ 97 ∷ 121 ∷ 32 ∷ 54 ∷ 10 ∷ 112 ∷ 97 ∷ 105
    ∷ 114 ∷ 32 ∷ 51 ∷ 32 ∷ 97 ∷ 116 ∷ 32 ∷ 98 ∷ 121 ∷ 116 ∷ 101 ∷ 32 ∷ 51 ∷ 57 ∷ 58 ∷ 32 ∷ 114 ∷ 101 ∷ 113 ∷ 117 ∷ 101 ∷ 115
    ∷ 116 ∷ 32 ∷ 107 ∷ 105 ∷ 110 ∷ 100 ∷ 32 ∷ 48 ∷ 120 ∷ 48 ∷ 48 ∷ 48 ∷ 50 ∷ 32 ∷ 102 ∷ 111 ∷ 114 ∷ 109 ∷ 32 ∷ 50 ∷ 58 ∷ 32 ∷ 99
    ∷ 111 ∷ 117 ∷ 110 ∷ 116 ∷ 32 ∷ 51 ∷ 44 ∷ 32 ∷ 116 ∷ 111 ∷ 100 ∷ 97 ∷ 121 ∷ 32 ∷ 48 ∷ 10 ∷ []

pub listed : tale_of stand_in 0 night
    ≡ record { kept = 34 ∷ 0 ∷ 2 ∷ []; rest = 3; gathered = record { calls = 3; offset = 58; differ = 2; text = lines } }
unfolding stand_in request reply night lines word_at length_field kind_field is_length starts_record record_in behind starts_pair pair_in cut_in cut folded
    feed_of same_bytes agrees tale_of tells asked told_of differing on_page entry_line title_of asked_of change_of what_differs counted hexed hex_digit digits
    digits_of
listed = refl

-- `cut off at byte 61, in the pair that begins at byte 58`
unfoldable pub last_line : List ℕ
last_line =
    99 ∷ 117 ∷ 116 ∷ 32 ∷ 111 ∷ 102 ∷ 102 ∷ 32 ∷ 97 ∷ 116 ∷ 32 ∷ 98 ∷ 121 ∷ 116 ∷ 101 ∷ 32 ∷ 54 ∷ 49 ∷ 44 ∷ 32 ∷ 105 ∷ 110 ∷ 32
    ∷ 116 ∷ 104 ∷ 101 ∷ 32 ∷ 112 ∷ 97 ∷ 105 ∷ 114 ∷ 32 ∷ 116 ∷ 104 ∷ 97 ∷ 116 ∷ 32 ∷ 98 ∷ 101 ∷ 103 ∷ 105 ∷ 110 ∷ 115 ∷ 32 ∷ 97
    ∷ 116 ∷ 32 ∷ 98 ∷ 121 ∷ 116 ∷ 101 ∷ 32 ∷ 53 ∷ 56 ∷ 10 ∷ []

pub closed : closing 0 false 58 3 (34 ∷ 0 ∷ 2 ∷ []) ≡ last_line
unfolding closing on_page ending_line second_ending cut_off length_field is_length word_at counted digits digits_of last_line
closed = refl

-- where the last read failed there is no closing line
pub not-closed : closing 0 true 58 3 (34 ∷ 0 ∷ 2 ∷ []) ≡ []
unfolding closing
not-closed = refl

-- what is written in all
pub wrote-all : written 0 false (tale_of stand_in 0 night) ≡ lines ++ last_line
unfolding written
wrote-all = ap (λ (s : Feed Tale). written 0 false s) listed ∙ ap (λ (l : List ℕ). lines ++ l) closed

pub wrote-lines : written 0 true (tale_of stand_in 0 night) ≡ lines
unfolding written
wrote-lines = ap (λ (s : Feed Tale). written 0 true s) listed ∙ ap (λ (l : List ℕ). lines ++ l) not-closed ∙ append-nil lines

-- of pair 3 its page, and nothing of the others; only it is counted
pub showed : (tale_of stand_in 3 night).gathered
    ≡ record { calls = 3; offset = 58; differ = 1; text = on_page (shown_page 3 39 request reply (stand_in request)) }
unfolding stand_in request reply night word_at length_field is_length starts_record record_in behind starts_pair pair_in cut_in cut folded feed_of same_bytes
    agrees tale_of tells asked told_of differing on_page
showed = refl

-- of a pair that is not there nothing is written
pub showed-none : written 4 false (tale_of stand_in 4 night) ≡ []
unfolding stand_in request reply night word_at length_field is_length starts_record record_in behind starts_pair pair_in cut_in cut folded feed_of same_bytes
    agrees tale_of tells asked told_of differing closing written
showed-none = refl
