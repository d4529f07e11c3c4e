-- What the functions over words promise: each value is that of its definition, and stays within its bounds. Assumes nothing.
use Rattle.std.specs.Prelude.{IsNone, Result, IfOk, ◌≡◌, Bool, cond, List, ℕ, ◌≤◌, ◌<◌, length}
use Rattle.text.specs.words.Words.{past, next, size_within, number_of, greatest_age, age_of}
use Rattle.text.specs.declared.words.Whole.{Whole}
use Rattle.text.specs.declared.words.Wrong.{Wrong}
use Rattle.text.specs.declared.words.Cursor.{Cursor}

pub record Skips (p : ℕ → Bool) (line : List ℕ) (at r : ℕ) : Type 0 where
  pub is : r ≡ past p line at
  pub onward : at ≤ r
  pub inside : r ≤ length line

-- a cursor within a line
pub record Inside (line : List ℕ) (c : Cursor) : Type 0 where
  pub order : c.start ≤ c.end
  pub end : c.end ≤ length line

-- the next word, of a byte or more
pub record Finds (line : List ℕ) (c r : Cursor) : Type 0 where
  pub is : r ≡ next line c
  pub inside : Inside line r
  pub some : IsNone r.wrong → r.start < r.end

-- beyond every bound that is asked for
abbrev pub cap : ℕ
cap = 4294967296

pub record ReadsDigits (ds : List ℕ) (bound : ℕ) (r : Result ℕ Wrong) : Type 0 where
  pub is : r ≡ size_within ds bound
  pub small : IfOk r (λ n. n ≤ bound)

pub record ReadsWord (w : List ℕ) (below above : ℕ) (r : Result Whole Wrong) : Type 0 where
  pub is : r ≡ number_of w below above
  pub small : IfOk r (λ n. n.size ≤ cond n.minus below above)

pub record ReadsAge (w : List ℕ) (r : Result ℕ Wrong) : Type 0 where
  pub is : r ≡ age_of w
  pub small : IfOk r (λ n. n ≤ greatest_age)
