-- The closing line: where the reading of a trace ended, and why. It is over what a feed holds of the pair that is not whole: how many
-- bytes there are from its start on, and the first of them. Assumes nothing.
use Rattle.std.specs.Prelude.{cond, List, ◌++◌, ℕ, ◌+◌, eqb, ltb}
use Rattle.wire.specs.Start.{length_field, is_length, behind}
use Rattle.pairs.specs.Cut.{longest_record}
use Rattle.feed.specs.Feed.{capped}
use Rattle.page.specs.Page.{counted}
use Rattle.shown.specs.entries.Text.{length_is, at_byte, newline, ends_at, cut_off_at, begins_at}

-- "A record length outside 8 to" the greatest; "or a pair cut off"; or neither
unfoldable pub no_length : ℕ → ℕ → List ℕ
no_length size offset = counted length_is size ++ counted at_byte offset ++ newline

unfoldable pub cut_off : ℕ → ℕ → List ℕ
cut_off offset rest = counted cut_off_at (capped (offset + rest)) ++ counted begins_at offset ++ newline

unfoldable pub whole_trace : ℕ → List ℕ
whole_trace offset = counted ends_at offset ++ newline

-- behind a first record of a right length
unfoldable pub second_ending : ℕ → ℕ → List ℕ → List ℕ
second_ending offset rest kept =
    cond (ltb rest (length_field kept + 2)) (cut_off offset rest)
    (cond (is_length longest_record (length_field (behind kept))) (cut_off offset rest)
    (no_length (length_field (behind kept)) (capped (offset + length_field kept))))

-- the line
unfoldable pub ending_line : ℕ → ℕ → List ℕ → List ℕ
ending_line offset rest kept =
    cond (eqb rest 0) (whole_trace offset)
    (cond (ltb rest 2) (cut_off offset rest)
    (cond (is_length longest_record (length_field kept)) (second_ending offset rest kept) (no_length (length_field kept) offset)))
