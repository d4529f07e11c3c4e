-- Text put on a page, a lent buffer, from a place on, as far as there is room. Nothing is asked of who puts it there: what has no
-- room is not put, and the place stays. Assumes nothing.
use Rattle.std.specs.Prelude.{◌≡◌, cond, List, [], ◌∷◌, ◌++◌, ℕ, ◌+◌, ◌-◌, ◌/◌, ◌%◌, ltb, length, take, ℤ}
use Rattle.std.proofs.lemmas.List.Edits.{sets}
use Rattle.spell.specs.Decimal.{digits, decimal}

-- as much of a text as there is room for from a place on
unfoldable pub fitting : List ℕ → ℕ → List ℕ → List ℕ
fitting page at text = take (length page - at) text

-- the text stands on the page from `at` up to `end`, and the rest of the page stays
pub record Puts (page : List ℕ) (at : ℕ) (text page' : List ℕ) (end : ℕ) : Type 0 where
  pub ends : end ≡ at + length (fitting page at text)
  pub holds : page' ≡ sets page at (fitting page at text)

-- a word and a number
unfoldable pub counted : List ℕ → ℕ → List ℕ
counted word n = word ++ digits n

unfoldable pub numbered : List ℕ → ℤ → List ℕ
numbered word n = word ++ decimal n

-- the last hexadecimal digit of a number: `0` to `9`, `a` to `f`
unfoldable pub hex_digit : ℕ → ℕ
hex_digit n = cond (ltb (n % 16) 10) (48 + n % 16) (87 + n % 16)

-- a word and a number of two bytes in four hexadecimal digits
unfoldable pub hexed : List ℕ → ℕ → List ℕ
hexed word n = word ++ hex_digit (n / 4096) ∷ hex_digit (n / 256) ∷ hex_digit (n / 16) ∷ hex_digit n ∷ []

-- a byte in two hexadecimal digits, behind what stands before it
unfoldable pub byte_shown : ℕ → ℕ → List ℕ
byte_shown before n = before ∷ hex_digit (n / 16) ∷ hex_digit n ∷ []
