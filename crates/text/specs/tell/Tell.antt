-- A line that cannot be read: what is answered to it, and what is told of it, as bytes. Assumes nothing.
use Rattle.std.specs.Prelude.{unwrap_or, List, [], ◌∷◌, ◌++◌, ℕ, ◌+◌, ◌≤◌, length}
use Rattle.text.specs.words.Words.{word_at}
use Rattle.text.specs.declared.words.Cursor.{Cursor}
use Rattle.text.specs.declared.words.Wrong.{Wrong}
use Rattle.text.specs.declared.words.Wrong.TheVariants.{NotNumber, Outside, TooFew, LeftOver, TooLong, Other}
use Rattle.spell.specs.Decimal.{digits}

-- `unreadable`
abbrev pub unreadable : List ℕ
unreadable = 117 ∷ 110 ∷ 114 ∷ 101 ∷ 97 ∷ 100 ∷ 97 ∷ 98 ∷ 108 ∷ 101 ∷ 10 ∷ []

-- `:ROW:COLUMN: `, the column counted from 1
unfoldable pub placed : ℕ → ℕ → List ℕ
placed row start = 58 ∷ digits row ++ 58 ∷ [] ++ digits (start + 1) ++ 58 ∷ 32 ∷ []

-- `"WORD" ` and what is wrong with it
unfoldable pub quoted : List ℕ → List ℕ → List ℕ
quoted word what = 34 ∷ word ++ 34 ∷ 32 ∷ [] ++ what

-- `"WORD" is not a whole number`, `"WORD" is outside its bounds`, `"WORD" is left over`, `too few words`, and
-- `longer than 4096 bytes`, which a reason of the caller's own is told as too
unfoldable pub told : List ℕ → Wrong → List ℕ
told word NotNumber = quoted word (105 ∷ 115 ∷ 32 ∷ 110 ∷ 111 ∷ 116 ∷ 32 ∷ 97 ∷ 32 ∷ 119 ∷ 104 ∷ 111 ∷ 108 ∷ 101 ∷ 32 ∷ 110 ∷ 117 ∷ 109 ∷ 98 ∷ 101 ∷ 114 ∷ 10 ∷ [])
told word Outside = quoted word (105 ∷ 115 ∷ 32 ∷ 111 ∷ 117 ∷ 116 ∷ 115 ∷ 105 ∷ 100 ∷ 101 ∷ 32 ∷ 105 ∷ 116 ∷ 115 ∷ 32 ∷ 98 ∷ 111 ∷ 117 ∷ 110 ∷ 100 ∷ 115 ∷ 10 ∷ [])
told word LeftOver = quoted word (105 ∷ 115 ∷ 32 ∷ 108 ∷ 101 ∷ 102 ∷ 116 ∷ 32 ∷ 111 ∷ 118 ∷ 101 ∷ 114 ∷ 10 ∷ [])
told word TooFew = 116 ∷ 111 ∷ 111 ∷ 32 ∷ 102 ∷ 101 ∷ 119 ∷ 32 ∷ 119 ∷ 111 ∷ 114 ∷ 100 ∷ 115 ∷ 10 ∷ []
told word TooLong = 108 ∷ 111 ∷ 110 ∷ 103 ∷ 101 ∷ 114 ∷ 32 ∷ 116 ∷ 104 ∷ 97 ∷ 110 ∷ 32 ∷ 52 ∷ 48 ∷ 57 ∷ 54 ∷ 32 ∷ 98 ∷ 121 ∷ 116 ∷ 101 ∷ 115 ∷ 10 ∷ []
told word (Other n) = 108 ∷ 111 ∷ 110 ∷ 103 ∷ 101 ∷ 114 ∷ 32 ∷ 116 ∷ 104 ∷ 97 ∷ 110 ∷ 32 ∷ 52 ∷ 48 ∷ 57 ∷ 54 ∷ 32 ∷ 98 ∷ 121 ∷ 116 ∷ 101 ∷ 115 ∷ 10 ∷ []

-- where a cursor that is refused stands and why it is; one that is not is told as too long
unfoldable pub complaint : ℕ → List ℕ → Cursor → List ℕ
complaint row line c = placed row c.start ++ told (word_at line c) (unwrap_or c.wrong TooLong)

-- so many bytes are enough for all of it
abbrev pub told_most : ℕ
told_most = 4176

-- the word at a cursor can be quoted
pub record Quotable (line : List ℕ) (c : Cursor) : Type 0 where
  pub order : c.start ≤ c.end
  pub inside : c.end ≤ length line
  pub short : c.end ≤ 4096
