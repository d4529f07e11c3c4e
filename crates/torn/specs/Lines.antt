-- "print each longest run of skipped bytes as `skip offset length`, in order": the lines as bytes. Assumes nothing.
use Rattle.std.specs.Prelude.{List, [], ◌∷◌, ◌++◌, ℕ, length}
use Rattle.feed.specs.Feed.{capped}
use Rattle.spell.specs.Decimal.{digits}
use Rattle.torn.specs.Salvage.{Run}

-- `skip offset length` and a newline
unfoldable pub skip_line : ℕ → ℕ → List ℕ
skip_line offset size = 115 ∷ 107 ∷ 105 ∷ 112 ∷ 32 ∷ digits offset ++ 32 ∷ digits size ++ 10 ∷ []

-- a line for each run
unfoldable pub skip_lines : List Run → List ℕ
skip_lines [] = []
skip_lines (run ∷ runs) = skip_line run.offset (length run.bytes) ++ skip_lines runs

-- numbers are counted in 64 bits and stay at the greatest of these; of a torn file of fewer than 2^64 bytes none is so great
-- (`lines-exact` in proofs/Promises.antt)
unfoldable pub capped_lines : List Run → List ℕ
capped_lines [] = []
capped_lines (run ∷ runs) = skip_line (capped run.offset) (capped (length run.bytes)) ++ capped_lines runs
