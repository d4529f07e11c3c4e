-- A line of any kind. A cursor goes from word to word: where the word that was read last stands, and what is wrong with it, if
-- anything; from a cursor that is refused nothing more is read, so the first thing that is wrong is the reason. A line whose first
-- word names its kind is read behind that word. Assumes nothing.
use Rattle.std.specs.Prelude.{Some, None, is_some, is_none, Bool, cond, ◌&&◌, List, ℕ, ltb, eqb, length}
use Rattle.text.specs.words.Words.{next, word_at, because, begins}
use Rattle.text.specs.declared.words.Cursor.{Cursor}
use Rattle.text.specs.declared.words.Wrong.TheVariants.{LeftOver, TooLong}

-- the longest line; one that is longer is refused before its first word
abbrev pub longest_line : ℕ
longest_line = 4096

abbrev pub overlong : Cursor
overlong = record { start = longest_line; end = longest_line; wrong = Some TooLong }

unfoldable pub begun : List ℕ → Cursor
begun line = cond (ltb longest_line (length line)) overlong (record { start = 0; end = 0; wrong = None })

-- no word is left
unfoldable pub ended : List ℕ → Cursor → Cursor
ended line c = let word = next line c in cond (is_some word.wrong) c (because word LeftOver)

-- a word is a name, byte for byte
unfoldable pub is_word : List ℕ → List ℕ → Bool
is_word w name = eqb (length w) (length name) && begins name w

-- the word at a cursor is
unfoldable pub is_kind : List ℕ → Cursor → List ℕ → Bool
is_kind line word name = is_none word.wrong && is_word (word_at line word) name

-- the first word
unfoldable pub opened : List ℕ → Cursor
opened line = next line (begun line)

-- what a line says, of whatever kind it is: where its reading stopped, and its answer line, unless the cursor is refused
pub record Spoken : Type 0 where
  pub cursor : Cursor
  pub answer : List ℕ
