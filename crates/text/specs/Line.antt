-- What a request line says, its words read one after the other. Assumes nothing.
use Rattle.std.specs.Prelude.{is_some, Result, Ok, Err, cond, List, ℕ, ℤ}
use Rattle.request.specs.declared.Head.{Head}
use Rattle.request.specs.Head.{most_points}
use Rattle.text.specs.words.Words.{next, word_at, because, age_of}
use Rattle.text.specs.declared.words.Cursor.{Cursor}
use Rattle.text.specs.kinds.Kinds.{begun, ended}
use Rattle.text.specs.numbers.Numbers.{headed, listed}
use Rattle.text.specs.rooms.Shown.{roomed}
use Rattle.text.specs.declared.rooms.Rooms.{Rooms}
use Rattle.text.specs.declared.words.After.{After}
use Rattle.text.specs.declared.words.Wrong.{Wrong}

-- an age was found at a word, or what is wrong with it
unfoldable pub age_at : Cursor → Result ℕ Wrong → After ℕ
age_at word (Ok n) = record { cursor = word; value = n }
age_at word (Err e) = record { cursor = because word e; value = 0 }

-- `age=` and digits, unless no word is left, and then the age is 0
unfoldable pub aged : List ℕ → Cursor → After ℕ
aged line c =
    let word = next line c in
    cond (is_some word.wrong) (record { cursor = c; value = 0 }) (age_at word (age_of (word_at line word)))

-- what a line says: a request, unless the cursor is refused
pub record Said : Type 0 where
  pub cursor : Cursor
  pub head : Head
  pub surface : List ℤ
  pub path : List ℤ
  pub rooms : Rooms
  pub age : ℕ

-- `form first second N`, a list of control values, a list of path numbers, the rooms and the age
unfoldable pub request : List ℕ → Cursor → Said
request line c =
    let start = headed line c in
    let surface = listed line start.cursor in
    let path = listed line surface.cursor in
    let lent = roomed most_points line path.cursor in
    let last = aged line lent.cursor in
    record {
      cursor = ended line last.cursor;
      head = start.value;
      surface = surface.numbers;
      path = path.numbers;
      rooms = lent.value;
      age = last.value;
    }

unfoldable pub said : List ℕ → Said
said line = request line (begun line)
