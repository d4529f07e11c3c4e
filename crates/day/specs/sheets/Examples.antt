-- Traces worked through the definitions. Assumes nothing.
use Rattle.std.specs.Prelude.{◌≡◌, refl, true, List, [], ◌∷◌, ◌++◌, ℕ, pos, negsuc}
use Rattle.wire.specs.Words.{word_at, signed, number_at}
use Rattle.wire.specs.Start.{length_field, kind_field, is_length, starts_record, record_in, behind}
use Rattle.pairs.specs.Cut.{longest_record, starts_pair, pair_in, cut_in, cut}
use Rattle.feed.specs.Feed.{how_many}
use Rattle.day.specs.declared.sheets.Sheet.{Sheet}
use Rattle.day.specs.sheets.Sheet.{in_turn, points_in, is_odd, odd_pair, of_number, points_of, points}
use Rattle.day.specs.sheets.Sheet.{lesser, greater, widened, widened_all, sheet_of, sheet_in}

-- a request, of which only its length counts here
unfoldable pub asked : List ℕ
asked = 8 ∷ 0 ∷ 1 ∷ 1 ∷ 0 ∷ 0 ∷ 0 ∷ 0 ∷ []

unfoldable pub trace : List ℕ
trace =
    -- accepted, points 0 and 100; then −32,768 and −7; then no point at all
    (asked ++ 12 ∷ 0 ∷ 1 ∷ 128 ∷ 0 ∷ 0 ∷ 2 ∷ 0 ∷ 0 ∷ 0 ∷ 100 ∷ 0 ∷ [])
    ++ (asked ++ 12 ∷ 0 ∷ 1 ∷ 128 ∷ 0 ∷ 0 ∷ 2 ∷ 0 ∷ 0 ∷ 128 ∷ 249 ∷ 255 ∷ [])
    ++ (asked ++ 8 ∷ 0 ∷ 1 ∷ 128 ∷ 0 ∷ 0 ∷ 0 ∷ 0 ∷ [])
    -- refusals 9, 10, 9 and 6, the last with a place
    ++ (asked ++ 8 ∷ 0 ∷ 1 ∷ 128 ∷ 9 ∷ 0 ∷ 0 ∷ 0 ∷ [])
    ++ (asked ++ 8 ∷ 0 ∷ 1 ∷ 128 ∷ 10 ∷ 0 ∷ 0 ∷ 0 ∷ [])
    ++ (asked ++ 8 ∷ 0 ∷ 1 ∷ 128 ∷ 9 ∷ 0 ∷ 0 ∷ 0 ∷ [])
    ++ (asked ++ 8 ∷ 0 ∷ 1 ∷ 128 ∷ 6 ∷ 2 ∷ 0 ∷ 0 ∷ [])
    -- odd: another kind, number 11, a point more than the count, and a refusal with the point 32,767
    ++ (asked ++ 8 ∷ 0 ∷ 2 ∷ 128 ∷ 9 ∷ 0 ∷ 0 ∷ 0 ∷ [])
    ++ (asked ++ 8 ∷ 0 ∷ 1 ∷ 128 ∷ 11 ∷ 0 ∷ 0 ∷ 0 ∷ [])
    ++ (asked ++ 12 ∷ 0 ∷ 1 ∷ 128 ∷ 0 ∷ 0 ∷ 1 ∷ 0 ∷ 44 ∷ 1 ∷ 45 ∷ 1 ∷ [])
    ++ (asked ++ 10 ∷ 0 ∷ 1 ∷ 128 ∷ 7 ∷ 3 ∷ 1 ∷ 0 ∷ 255 ∷ 127 ∷ [])
    -- a pair that is cut off
    ++ (asked ++ 8 ∷ 0 ∷ 1 ∷ 128 ∷ 1 ∷ 0 ∷ [])

unfoldable pub its_sheet : Sheet
its_sheet =
    record {
      odd = 4;
      refusals = 3 ∷ 0 ∷ 0 ∷ 0 ∷ 0 ∷ 0 ∷ 1 ∷ 0 ∷ 0 ∷ 2 ∷ 1 ∷ [];
      span = record { some = true; least = negsuc 32767; most = pos 100 };
    }

pub as-worked : sheet_in longest_record trace ≡ its_sheet
unfolding asked trace its_sheet word_at signed number_at length_field kind_field is_length starts_record record_in behind starts_pair pair_in
    cut_in cut how_many in_turn points_in is_odd odd_pair of_number points_of points lesser greater widened widened_all sheet_of sheet_in
as-worked = refl
