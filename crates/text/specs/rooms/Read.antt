-- What the reader of rooms promises. Assumes nothing.
use Rattle.std.specs.Prelude.{◌≡◌, List, ℕ, ◌≤◌}
use Rattle.text.specs.words.Read.{Inside}
use Rattle.text.specs.declared.words.Cursor.{Cursor}
use Rattle.text.specs.numbers.Numbers.{most}
use Rattle.text.specs.rooms.Shown.{roomed}
use Rattle.text.specs.declared.rooms.Rooms.{Rooms}
use Rattle.text.specs.declared.words.After.{After}

pub record ReadsRooms (own : ℕ) (line : List ℕ) (c : Cursor) (r : After Rooms) : Type 0 where
  pub is : r ≡ roomed own line c
  pub inside : Inside line r.cursor
  pub small_exact : r.value.exact ≤ most
  pub small_points : r.value.points ≤ most
