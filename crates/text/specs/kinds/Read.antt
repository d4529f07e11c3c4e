-- What the functions over a line promise, and what the reader of each kind owes: every byte of the lent buffer. Assumes nothing.
use Rattle.std.specs.Prelude.{◌≡◌, List, ℕ, ◌≤◌, IsSome, IsNone, Result, MatchResult}
use Rattle.text.specs.words.Read.{Inside}
use Rattle.text.specs.declared.words.Cursor.{Cursor}
use Rattle.spell.specs.Decimal.{Written}
use Rattle.text.specs.kinds.Kinds.{longest_line, begun, ended, Spoken}

pub record Begins (line : List ℕ) (r : Cursor) : Type 0 where
  pub is : r ≡ begun line
  pub inside : Inside line r

pub record ReadsEnd (line : List ℕ) (c : Cursor) (r : Cursor) : Type 0 where
  pub is : r ≡ ended line c
  pub inside : Inside line r

-- so many bytes are enough for every answer line
abbrev pub answer_most : ℕ
answer_most = 4096

-- the answer line of what a line says stands at the front of a buffer, and where it ends is answered; or the line cannot be read, nothing was written, and
-- where it is wrong is answered
pub record Replies (s : Spoken) (line out out' : List ℕ) (r : Result ℕ Cursor) : Type 0 where
  pub inside : Inside line s.cursor
  pub short : s.cursor.end ≤ longest_line
  pub said : MatchResult r (λ end. IsNone s.cursor.wrong × Written answer_most out 0 s.answer out' end)
      (λ c. IsSome s.cursor.wrong × (c ≡ s.cursor) × (out' ≡ out))
