-- How an answer line is written. Assumes nothing.
use Rattle.std.specs.Prelude.{◌≡◌, List, [], ◌∷◌, ◌++◌, ℕ, ◌≤◌, ℤ, length}
use Rattle.spell.specs.Decimal.{digits, decimal}

-- numbers with one space before each
unfoldable pub spaced : List ℤ → List ℕ
spaced [] = []
spaced (z ∷ zs) = 32 ∷ decimal z ++ spaced zs

-- `number place`, as every answer begins
unfoldable pub judged : ℕ → ℕ → List ℕ
judged number place = digits number ++ 32 ∷ digits place

-- `number place count entries`
unfoldable pub verdict : ℕ → ℕ → ℕ → ℕ → List ℕ
verdict number place count entries = judged number place ++ 32 ∷ digits count ++ 32 ∷ digits entries

-- ` | numerators | points`
unfoldable pub lists : List ℤ → List ℤ → List ℕ
lists exact points = 32 ∷ 124 ∷ spaced exact ++ 32 ∷ 124 ∷ spaced points

-- both and a newline
unfoldable pub answer_line : ℕ → ℕ → ℕ → ℕ → List ℤ → List ℤ → List ℕ
answer_line number place count entries exact points = verdict number place count entries ++ lists exact points ++ 10 ∷ []

-- of a patch, `number place count | numerators | points` and a newline
unfoldable pub patch_line : ℕ → ℕ → ℕ → List ℤ → List ℤ → List ℕ
patch_line number place count exact points = judged number place ++ 32 ∷ digits count ++ lists exact points ++ 10 ∷ []

-- of a reading at a tick: `number place reading` and a newline
unfoldable pub reading_line : ℕ → ℕ → ℤ → List ℕ
reading_line number place reading = judged number place ++ 32 ∷ decimal reading ++ 10 ∷ []

-- lists of at most 64 places each, as many low words as high ones
pub record Listed (high : List ℤ) (low : List ℕ) (points : List ℤ) : Type 0 where
  pub alike : length low ≡ length high
  pub few : length high ≤ 64
  pub few_points : length points ≤ 64
