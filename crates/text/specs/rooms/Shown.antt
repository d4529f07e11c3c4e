-- The rooms of a line, and which places of an array are shown. Assumes nothing.
use Rattle.std.specs.Prelude.{Bool, false, true, cond, List, ℕ, min, is_some}
use Rattle.text.specs.words.Words.{next, word_at, because, is_age}
use Rattle.text.specs.declared.words.Cursor.{Cursor}
use Rattle.text.specs.numbers.Numbers.{most, natural}
use Rattle.text.specs.declared.rooms.Rooms.{Rooms}
use Rattle.text.specs.declared.words.After.{After}
use Rattle.text.specs.declared.words.Wrong.TheVariants.{LeftOver}

-- the rooms where a line names none: room for the longest answer
abbrev pub own_rooms : ℕ → Rooms
own_rooms own = record { given = false; exact = own; points = own }

-- two rooms, unless no word is left or the next one is the age; one word alone is left over
unfoldable pub roomed : ℕ → List ℕ → Cursor → After Rooms
roomed own line c =
    let none : After Rooms = record { cursor = c; value = own_rooms own } in
    let word = next line c in
    cond (is_some word.wrong) none
    (cond (is_age (word_at line word)) none
    (cond (is_some (next line word).wrong) (record { cursor = because word LeftOver; value = own_rooms own })
    (let exact = natural line c most in
    let points = natural line exact.cursor most in
    record {
      cursor = points.cursor;
      value = record { given = true; exact = exact.value.size; points = points.value.size };
    })))

-- how many places of an array are shown: all where the line gives rooms, else those that the answer counts
unfoldable pub shown : Bool → ℕ → ℕ → ℕ
shown given count room = cond given room (min count room)
