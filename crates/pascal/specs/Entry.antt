-- What the table of binomial coefficients answers, the number of its last row and the greatest number of it.
-- A row that the table does not have is answered with 0, as a place past a row's end is. Assumes nothing.
use Rattle.std.specs.Prelude.{cond, ℕ, ◌+◌, ◌*◌, ◌/◌, leb}
use Rattle.whole.specs.Choose.{choose}

abbrev pub last_row : ℕ
last_row = 24

-- the last row of path weights
abbrev pub early_row : ℕ
early_row = 6

-- the greatest number of the table, in the middle of its last row
abbrev pub largest : ℕ
largest = 2704156

-- where place k of row n stands, the rows one after the other
abbrev pub place_of : ℕ → ℕ → ℕ
place_of n k = n * (n + 1) / 2 + k

-- n over k up to a last row, and 0 after it
unfoldable pub entry : ℕ → ℕ → ℕ → ℕ
entry last n k = cond (leb n last) (choose n k) 0
