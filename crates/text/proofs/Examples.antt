-- Worked lines as a table with one statement: ride P1 with rooms, with an age, with a carriage return, and lines with
-- something wrong, each with where the wrong word stands. The columns were counted by hand. Assumes nothing.
use mathlib.Core.Path.{◌≡◌, refl}
use mathlib.Core.Bool.{true, false}
use mathlib.Core.List.{List, [], ◌∷◌, ◌++◌, map}
use Prim.Native.Nat.{ℕ}
use lib.IntN.{pos}
use Rattle.text.specs.words.Words.{is_blank, is_solid, is_digit, run, every, word_after, next, spelled, signed, size_within, number_of, begins, is_age, age_of}
use Rattle.text.specs.declared.words.Cursor.{Cursor}
use Rattle.text.specs.declared.words.Wrong.TheVariants.{NotNumber, Outside, LeftOver}
use Rattle.std.proofs.Common.{Some, None}
use Rattle.text.specs.numbers.Numbers.{taken, number, headed, value, after_values, values, listed}
use Rattle.text.specs.kinds.Kinds.{begun, ended}
use Rattle.text.specs.Line.{Said, age_at, aged, request, said}
use Rattle.text.specs.rooms.Shown.{roomed}
use Rattle.text.specs.declared.rooms.Rooms.{Rooms}

-- `1 1 0 1 2 0 100 2 0 1024`
p1 : List ℕ
p1 = 49 ∷ 32 ∷ 49 ∷ 32 ∷ 48 ∷ 32 ∷ 49 ∷ 32 ∷ 50 ∷ 32 ∷ 48 ∷ 32 ∷ 49 ∷ 48 ∷ 48 ∷ 32 ∷ 50 ∷ 32 ∷ 48 ∷ 32 ∷ 49 ∷ 48 ∷ 50 ∷ 52 ∷ []

-- P1 alone; with ` 4 3 age=251`; with ` age=7` and a carriage return; with ` 1024`, ` age=x`, ` age=65536`, ` Age=1` and
-- ` age=1 2`
lines : List (List ℕ)
lines =
    p1
    ∷ (p1 ++ 32 ∷ 52 ∷ 32 ∷ 51 ∷ 32 ∷ 97 ∷ 103 ∷ 101 ∷ 61 ∷ 50 ∷ 53 ∷ 49 ∷ [])
    ∷ (p1 ++ 32 ∷ 97 ∷ 103 ∷ 101 ∷ 61 ∷ 55 ∷ 13 ∷ [])
    ∷ (p1 ++ 32 ∷ 49 ∷ 48 ∷ 50 ∷ 52 ∷ [])
    ∷ (p1 ++ 32 ∷ 97 ∷ 103 ∷ 101 ∷ 61 ∷ 120 ∷ [])
    ∷ (p1 ++ 32 ∷ 97 ∷ 103 ∷ 101 ∷ 61 ∷ 54 ∷ 53 ∷ 53 ∷ 51 ∷ 54 ∷ [])
    ∷ (p1 ++ 32 ∷ 65 ∷ 103 ∷ 101 ∷ 61 ∷ 49 ∷ [])
    ∷ (p1 ++ 32 ∷ 97 ∷ 103 ∷ 101 ∷ 61 ∷ 49 ∷ 32 ∷ 50 ∷ [])
    ∷ []

own : Rooms
own = record { given = false; exact = 25; points = 25 }

says : Cursor → Rooms → ℕ → Said
says cursor rooms age = record {
  cursor = cursor;
  head = record { form = 1; first = 1; second = 0; N = 1 };
  surface = pos 0 ∷ pos 100 ∷ [];
  path = pos 0 ∷ pos 1024 ∷ [];
  rooms = rooms;
  age = age;
}

lines_are : map said lines ≡ says (record { start = 20; end = 24; wrong = None }) own 0
    ∷ says (record { start = 29; end = 36; wrong = None }) (record { given = true; exact = 4; points = 3 }) 251
    ∷ says (record { start = 25; end = 30; wrong = None }) own 7
    ∷ says (record { start = 25; end = 29; wrong = Some LeftOver }) own 0
    ∷ says (record { start = 25; end = 30; wrong = Some NotNumber }) own 0
    ∷ says (record { start = 25; end = 34; wrong = Some Outside }) own 0
    ∷ says (record { start = 25; end = 30; wrong = Some LeftOver }) own 0
    ∷ says (record { start = 31; end = 32; wrong = Some LeftOver }) own 1
    ∷ []
unfolding p1 lines own says said request begun ended age_at aged roomed headed listed values after_values value number taken number_of
    size_within age_of is_age begins signed spelled next word_after every run is_digit is_solid is_blank
lines_are = refl
