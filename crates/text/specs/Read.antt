-- What the readers promise: each value is that of its definition, and stays within its bounds. Assumes nothing.
use Rattle.std.specs.Prelude.{◌≡◌, List, ℕ, ◌≤◌, ℤ, length}
use Rattle.std.proofs.lemmas.List.Edits.{sets}
use Rattle.text.specs.words.Read.{Inside}
use Rattle.text.specs.declared.words.Cursor.{Cursor}
use Rattle.text.specs.numbers.Numbers.{most}
use Rattle.text.specs.kinds.Kinds.{longest_line}
use Rattle.text.specs.Line.{aged, said}
use Rattle.text.specs.declared.Reading.{Reading}
use Rattle.text.specs.declared.words.After.{After}

pub record ReadsAge (line : List ℕ) (c : Cursor) (r : After ℕ) : Type 0 where
  pub is : r ≡ aged line c
  pub inside : Inside line r.cursor

-- what a line says, with the numbers of its two lists at the front of two arrays
pub record ReadsLine (line : List ℕ) (surface path surface' path' : List ℤ) (r : Reading) : Type 0 where
  pub cursor : r.cursor ≡ (said line).cursor
  pub head : r.head ≡ (said line).head
  pub surface_count : r.surface ≡ length (said line).surface
  pub path_count : r.path ≡ length (said line).path
  pub rooms : r.rooms ≡ (said line).rooms
  pub age : r.age ≡ (said line).age
  pub surface_is : surface' ≡ sets surface 0 (said line).surface
  pub path_is : path' ≡ sets path 0 (said line).path
  pub few_values : r.surface ≤ most
  pub few_numbers : r.path ≤ most
  pub few_exact : r.rooms.exact ≤ most
  pub few_points : r.rooms.points ≤ most
  pub inside : Inside line r.cursor
  pub short : r.cursor.end ≤ longest_line
