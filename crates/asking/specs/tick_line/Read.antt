-- What the reader of a tick line promises: each value is that of its definition, and stays within its bounds. Assumes nothing.
use Rattle.std.specs.Prelude.{◌≡◌, List, ℕ, ◌≤◌, ℤ, length}
use Rattle.std.proofs.lemmas.List.Edits.{sets}
use Rattle.text.specs.words.Read.{Inside}
use Rattle.text.specs.declared.words.Cursor.{Cursor}
use Rattle.text.specs.numbers.Numbers.{most}
use Rattle.asking.specs.tick_line.Line.{asked}
use Rattle.asking.specs.declared.tick_line.Reading.{Reading}

-- what a line says from a cursor on, with its points at the front of an array
pub record ReadsTick (line : List ℕ) (c : Cursor) (points points' : List ℤ) (r : Reading) : Type 0 where
  pub cursor : r.cursor ≡ (asked line c).cursor
  pub counted : r.count ≡ length (asked line c).points
  pub k : r.k ≡ (asked line c).k
  pub holds : points' ≡ sets points 0 (asked line c).points
  pub few : r.count ≤ most
  pub inside : Inside line r.cursor
