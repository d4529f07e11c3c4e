-- Worked patch lines as a table: without rooms and with them, a number left over, a word that is no number, an age where none belongs; each
-- with where the last word read stands, the columns counted apart from this program. Assumes nothing.
use mathlib.Core.Path.{◌≡◌, refl}
use mathlib.Core.Bool.{true, false}
use mathlib.Core.List.{List, [], ◌∷◌, map}
use Prim.Native.Nat.{ℕ}
use Rattle.std.proofs.Common.{Some, None}
use Rattle.text.specs.declared.words.Wrong.TheVariants.{NotNumber, LeftOver}
use lib.IntN.{pos, negsuc}
use Rattle.text.specs.words.Words.{is_blank, is_solid, is_digit, run, every, word_after, next, spelled, signed, size_within, number_of, begins, is_age}
use Rattle.text.specs.kinds.Kinds.{begun, ended, opened}
use Rattle.text.specs.numbers.Numbers.{taken, number, value, after_values, values, listed}
use Rattle.text.specs.rooms.Shown.{roomed}
use Rattle.text.specs.declared.rooms.Rooms.{Rooms}
use Rattle.asking.specs.patch_line.Line.{asked}

-- `patch 1 2 1 -7 2 0 1024`, `patch 0 3 0 0 5 6`, `patch 1 2 0 0 5`, `patch 1 x`, `patch 1 2 0 0 age=0`
lines : List (List ℕ)
lines =
    (112 ∷ 97 ∷ 116 ∷ 99 ∷ 104 ∷ 32 ∷ 49 ∷ 32 ∷ 50 ∷ 32 ∷ 49 ∷ 32 ∷ 45 ∷ 55 ∷ 32 ∷ 50 ∷ 32 ∷ 48 ∷ 32 ∷ 49 ∷ 48 ∷ 50 ∷ 52 ∷ [])
    ∷ (112 ∷ 97 ∷ 116 ∷ 99 ∷ 104 ∷ 32 ∷ 48 ∷ 32 ∷ 51 ∷ 32 ∷ 48 ∷ 32 ∷ 48 ∷ 32 ∷ 53 ∷ 32 ∷ 54 ∷ [])
    ∷ (112 ∷ 97 ∷ 116 ∷ 99 ∷ 104 ∷ 32 ∷ 49 ∷ 32 ∷ 50 ∷ 32 ∷ 48 ∷ 32 ∷ 48 ∷ 32 ∷ 53 ∷ [])
    ∷ (112 ∷ 97 ∷ 116 ∷ 99 ∷ 104 ∷ 32 ∷ 49 ∷ 32 ∷ 120 ∷ [])
    ∷ (112 ∷ 97 ∷ 116 ∷ 99 ∷ 104 ∷ 32 ∷ 49 ∷ 32 ∷ 50 ∷ 32 ∷ 48 ∷ 32 ∷ 48 ∷ 32 ∷ 97 ∷ 103 ∷ 101 ∷ 61 ∷ 48 ∷ [])
    ∷ []

own : Rooms
own = record { given = false; exact = 55; points = 55 }

lines_are : map (λ line. asked line (opened line)) lines
    ≡ record { cursor = record { start = 19; end = 23; wrong = None }; n = 1; N = 2; surface = negsuc 6 ∷ []; path = pos 0 ∷ pos 1024 ∷ []; rooms = own }
    ∷ record { cursor = record { start = 16; end = 17; wrong = None }; n = 0; N = 3; surface = []; path = []; rooms = record { given = true; exact = 5; points = 6 } }
    ∷ record { cursor = record { start = 14; end = 15; wrong = Some LeftOver }; n = 1; N = 2; surface = []; path = []; rooms = own }
    ∷ record { cursor = record { start = 8; end = 9; wrong = Some NotNumber }; n = 1; N = 0; surface = []; path = []; rooms = own }
    ∷ record { cursor = record { start = 14; end = 19; wrong = Some LeftOver }; n = 1; N = 2; surface = []; path = []; rooms = own }
    ∷ []
unfolding lines own asked opened begun ended roomed listed values after_values value number taken number_of size_within signed spelled next word_after every
    run begins is_age is_digit is_solid is_blank
lines_are = refl
