-- A torn trace worked through the definitions, its file and its lines reckoned by hand. The door here answers four bytes of the
-- request and its length, so that no surface has to be composed to read it. Assumes nothing.
use Rattle.std.specs.Prelude.{◌≡◌, refl, List, [], ◌∷◌, ◌++◌, ℕ, length, take, drop}
use Rattle.wire.specs.Words.{word_at}
use Rattle.wire.specs.Start.{is_length, length_field, kind_field, starts_record, record_in, behind}
use Rattle.pairs.specs.Cut.{starts_pair, pair_in, joined}
use Rattle.spell.specs.Decimal.{digits_of, digits}
use Rattle.fives.specs.Replay.{same_bytes, agrees}
use Rattle.torn.specs.Salvage.{of_kind, answered, good, salvage_in, salvage, kept_pairs, saved, closed, runs_from, runs}
use Rattle.torn.specs.Lines.{skip_line, skip_lines}

unfoldable pub door : List ℕ → List ℕ
door request = 9 ∷ 0 ∷ 1 ∷ 128 ∷ take 4 (drop 4 request) ++ length request ∷ []

-- two bytes; a pair of kind 1; three bytes that start like one; a pair of kind 3; a request that swallows a pair of kind 2, with a
-- reply that is not the door's, so that the pair inside it is kept; that pair again; and a pair that is cut off
unfoldable pub trace : List ℕ
trace =
    7 ∷ 0
    ∷ 8 ∷ 0 ∷ 1 ∷ 0 ∷ 1 ∷ 2 ∷ 0 ∷ 3 ∷ 9 ∷ 0 ∷ 1 ∷ 128 ∷ 1 ∷ 2 ∷ 0 ∷ 3 ∷ 8
    ∷ 8 ∷ 0 ∷ 1
    ∷ 8 ∷ 0 ∷ 3 ∷ 0 ∷ 4 ∷ 5 ∷ 6 ∷ 7 ∷ 9 ∷ 0 ∷ 1 ∷ 128 ∷ 4 ∷ 5 ∷ 6 ∷ 7 ∷ 8
    ∷ 27 ∷ 0 ∷ 1 ∷ 0 ∷ 1 ∷ 1 ∷ 1 ∷ 1
    ∷ 10 ∷ 0 ∷ 2 ∷ 0 ∷ 9 ∷ 1 ∷ 4 ∷ 2 ∷ 250 ∷ 0 ∷ 9 ∷ 0 ∷ 1 ∷ 128 ∷ 9 ∷ 1 ∷ 4 ∷ 2 ∷ 10
    ∷ 9 ∷ 0 ∷ 1 ∷ 128 ∷ 1 ∷ 1 ∷ 1 ∷ 1 ∷ 26
    ∷ 10 ∷ 0 ∷ 2 ∷ 0 ∷ 9 ∷ 1 ∷ 4 ∷ 2 ∷ 250 ∷ 0 ∷ 9 ∷ 0 ∷ 1 ∷ 128 ∷ 9 ∷ 1 ∷ 4 ∷ 2 ∷ 10
    ∷ 8 ∷ 0 ∷ 1 ∷ 0 ∷ 1 ∷ 2 ∷ 0 ∷ 3 ∷ 9 ∷ 0 ∷ 1 ∷ 128 ∷ 1 ∷ []

-- what is kept: the pair of kind 1, and that of kind 2 twice
unfoldable pub file : List ℕ
file =
    8 ∷ 0 ∷ 1 ∷ 0 ∷ 1 ∷ 2 ∷ 0 ∷ 3 ∷ 9 ∷ 0 ∷ 1 ∷ 128 ∷ 1 ∷ 2 ∷ 0 ∷ 3 ∷ 8
    ∷ 10 ∷ 0 ∷ 2 ∷ 0 ∷ 9 ∷ 1 ∷ 4 ∷ 2 ∷ 250 ∷ 0 ∷ 9 ∷ 0 ∷ 1 ∷ 128 ∷ 9 ∷ 1 ∷ 4 ∷ 2 ∷ 10
    ∷ 10 ∷ 0 ∷ 2 ∷ 0 ∷ 9 ∷ 1 ∷ 4 ∷ 2 ∷ 250 ∷ 0 ∷ 9 ∷ 0 ∷ 1 ∷ 128 ∷ 9 ∷ 1 ∷ 4 ∷ 2 ∷ 10 ∷ []

pub file-is : saved (salvage 128 door trace) ≡ file
unfolding door trace file word_at length_field kind_field is_length starts_record record_in behind starts_pair pair_in joined same_bytes
    agrees of_kind answered good salvage_in salvage kept_pairs saved
file-is = refl

-- "skip 0 2", "skip 19 28", "skip 66 9", "skip 94 13", a line each
pub lines_are : skip_lines (runs (salvage 128 door trace))
    ≡ 115 ∷ 107 ∷ 105 ∷ 112 ∷ 32 ∷ 48 ∷ 32 ∷ 50 ∷ 10
    ∷ 115 ∷ 107 ∷ 105 ∷ 112 ∷ 32 ∷ 49 ∷ 57 ∷ 32 ∷ 50 ∷ 56 ∷ 10
    ∷ 115 ∷ 107 ∷ 105 ∷ 112 ∷ 32 ∷ 54 ∷ 54 ∷ 32 ∷ 57 ∷ 10
    ∷ 115 ∷ 107 ∷ 105 ∷ 112 ∷ 32 ∷ 57 ∷ 52 ∷ 32 ∷ 49 ∷ 51 ∷ 10 ∷ []
unfolding door trace word_at length_field kind_field is_length starts_record record_in behind starts_pair pair_in same_bytes
    agrees of_kind answered good salvage_in salvage closed runs_from runs skip_line skip_lines digits_of digits
lines_are = refl
