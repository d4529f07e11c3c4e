-- The lines of the worked trace's sheet, and of an empty trace's. Assumes nothing.
use Rattle.std.specs.Prelude.{◌≡◌, refl, [], ◌∷◌, ◌++◌}
use Rattle.spell.specs.Decimal.{digits_of, digits, decimal, named}
use Rattle.pairs.specs.Cut.{longest_record, cut_in, cut}
use Rattle.feed.specs.Feed.{how_many}
use Rattle.day.specs.sheets.Sheet.{in_turn, points, widened_all, sheet_of, sheet_in}
use Rattle.day.specs.sheets.Examples.{its_sheet}
use Rattle.day.specs.sheet_lines.Lines.{refusal_line, refusal_lines, value_of, point_line, sheet_lines}

pub its-lines : sheet_lines its_sheet
    ≡ (111 ∷ 100 ∷ 100 ∷ 32 ∷ 52 ∷ 10 ∷ [])
    ++ (114 ∷ 101 ∷ 102 ∷ 117 ∷ 115 ∷ 97 ∷ 108 ∷ 32 ∷ 48 ∷ 32 ∷ 51 ∷ 10 ∷ [])
    ++ (114 ∷ 101 ∷ 102 ∷ 117 ∷ 115 ∷ 97 ∷ 108 ∷ 32 ∷ 49 ∷ 32 ∷ 48 ∷ 10 ∷ [])
    ++ (114 ∷ 101 ∷ 102 ∷ 117 ∷ 115 ∷ 97 ∷ 108 ∷ 32 ∷ 50 ∷ 32 ∷ 48 ∷ 10 ∷ [])
    ++ (114 ∷ 101 ∷ 102 ∷ 117 ∷ 115 ∷ 97 ∷ 108 ∷ 32 ∷ 51 ∷ 32 ∷ 48 ∷ 10 ∷ [])
    ++ (114 ∷ 101 ∷ 102 ∷ 117 ∷ 115 ∷ 97 ∷ 108 ∷ 32 ∷ 52 ∷ 32 ∷ 48 ∷ 10 ∷ [])
    ++ (114 ∷ 101 ∷ 102 ∷ 117 ∷ 115 ∷ 97 ∷ 108 ∷ 32 ∷ 53 ∷ 32 ∷ 48 ∷ 10 ∷ [])
    ++ (114 ∷ 101 ∷ 102 ∷ 117 ∷ 115 ∷ 97 ∷ 108 ∷ 32 ∷ 54 ∷ 32 ∷ 49 ∷ 10 ∷ [])
    ++ (114 ∷ 101 ∷ 102 ∷ 117 ∷ 115 ∷ 97 ∷ 108 ∷ 32 ∷ 55 ∷ 32 ∷ 48 ∷ 10 ∷ [])
    ++ (114 ∷ 101 ∷ 102 ∷ 117 ∷ 115 ∷ 97 ∷ 108 ∷ 32 ∷ 56 ∷ 32 ∷ 48 ∷ 10 ∷ [])
    ++ (114 ∷ 101 ∷ 102 ∷ 117 ∷ 115 ∷ 97 ∷ 108 ∷ 32 ∷ 57 ∷ 32 ∷ 50 ∷ 10 ∷ [])
    ++ (114 ∷ 101 ∷ 102 ∷ 117 ∷ 115 ∷ 97 ∷ 108 ∷ 32 ∷ 49 ∷ 48 ∷ 32 ∷ 49 ∷ 10 ∷ [])
    ++ (108 ∷ 101 ∷ 97 ∷ 115 ∷ 116 ∷ 32 ∷ 45 ∷ 51 ∷ 50 ∷ 55 ∷ 54 ∷ 56 ∷ 10 ∷ [])
    ++ (109 ∷ 111 ∷ 115 ∷ 116 ∷ 32 ∷ 49 ∷ 48 ∷ 48 ∷ 10 ∷ [])
unfolding its_sheet digits_of digits decimal named refusal_line refusal_lines value_of point_line sheet_lines
its-lines = refl

-- "An empty trace gives fourteen lines"
pub empty : sheet_lines (sheet_in longest_record [])
    ≡ (111 ∷ 100 ∷ 100 ∷ 32 ∷ 48 ∷ 10 ∷ [])
    ++ (114 ∷ 101 ∷ 102 ∷ 117 ∷ 115 ∷ 97 ∷ 108 ∷ 32 ∷ 48 ∷ 32 ∷ 48 ∷ 10 ∷ [])
    ++ (114 ∷ 101 ∷ 102 ∷ 117 ∷ 115 ∷ 97 ∷ 108 ∷ 32 ∷ 49 ∷ 32 ∷ 48 ∷ 10 ∷ [])
    ++ (114 ∷ 101 ∷ 102 ∷ 117 ∷ 115 ∷ 97 ∷ 108 ∷ 32 ∷ 50 ∷ 32 ∷ 48 ∷ 10 ∷ [])
    ++ (114 ∷ 101 ∷ 102 ∷ 117 ∷ 115 ∷ 97 ∷ 108 ∷ 32 ∷ 51 ∷ 32 ∷ 48 ∷ 10 ∷ [])
    ++ (114 ∷ 101 ∷ 102 ∷ 117 ∷ 115 ∷ 97 ∷ 108 ∷ 32 ∷ 52 ∷ 32 ∷ 48 ∷ 10 ∷ [])
    ++ (114 ∷ 101 ∷ 102 ∷ 117 ∷ 115 ∷ 97 ∷ 108 ∷ 32 ∷ 53 ∷ 32 ∷ 48 ∷ 10 ∷ [])
    ++ (114 ∷ 101 ∷ 102 ∷ 117 ∷ 115 ∷ 97 ∷ 108 ∷ 32 ∷ 54 ∷ 32 ∷ 48 ∷ 10 ∷ [])
    ++ (114 ∷ 101 ∷ 102 ∷ 117 ∷ 115 ∷ 97 ∷ 108 ∷ 32 ∷ 55 ∷ 32 ∷ 48 ∷ 10 ∷ [])
    ++ (114 ∷ 101 ∷ 102 ∷ 117 ∷ 115 ∷ 97 ∷ 108 ∷ 32 ∷ 56 ∷ 32 ∷ 48 ∷ 10 ∷ [])
    ++ (114 ∷ 101 ∷ 102 ∷ 117 ∷ 115 ∷ 97 ∷ 108 ∷ 32 ∷ 57 ∷ 32 ∷ 48 ∷ 10 ∷ [])
    ++ (114 ∷ 101 ∷ 102 ∷ 117 ∷ 115 ∷ 97 ∷ 108 ∷ 32 ∷ 49 ∷ 48 ∷ 32 ∷ 48 ∷ 10 ∷ [])
    ++ (108 ∷ 101 ∷ 97 ∷ 115 ∷ 116 ∷ 32 ∷ 110 ∷ 111 ∷ 110 ∷ 101 ∷ 10 ∷ [])
    ++ (109 ∷ 111 ∷ 115 ∷ 116 ∷ 32 ∷ 110 ∷ 111 ∷ 110 ∷ 101 ∷ 10 ∷ [])
unfolding cut_in cut how_many in_turn points widened_all sheet_of sheet_in digits_of digits named refusal_line refusal_lines value_of point_line sheet_lines
empty = refl
