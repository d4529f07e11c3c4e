-- A patch line: `patch n N count value.. count number..` and, if wanted, two rooms, answered by `number place count | numerators | points`,
-- the answer of ticket 8 (rule Patches on patches) in the places that are shown. Assumes nothing.
use Rattle.std.specs.Prelude.{Bool, List, [], ◌∷◌, ℕ, ℤ, negsuc, length, take, replicate}
use Rattle.text.specs.declared.words.Cursor.{Cursor}
use Rattle.text.specs.kinds.Kinds.{ended, Spoken}
use Rattle.text.specs.numbers.Numbers.{largest, natural, listed}
use Rattle.text.specs.rooms.Shown.{roomed, shown}
use Rattle.text.specs.declared.rooms.Rooms.{Rooms}
use Rattle.patch_net.specs.Patch.{Patch, patch_of}
use Rattle.patch_net.specs.Refusal.{answer}
use Rattle.patch_net.specs.Afterwards.{exact_after, points_after}
use Rattle.answer_line.specs.Answer.{patch_line}

-- `patch`
abbrev pub patch_word : List ℕ
patch_word = 112 ∷ 97 ∷ 116 ∷ 99 ∷ 104 ∷ []

-- the places of the longest answer, which are both rooms where a line names none
abbrev pub most_places : ℕ
most_places = 55

-- what stands behind the word
pub record Asked : Type 0 where
  pub cursor : Cursor
  pub n : ℕ
  pub N : ℕ
  pub surface : List ℤ
  pub path : List ℤ
  pub rooms : Rooms

unfoldable pub asked : List ℕ → Cursor → Asked
asked line c =
    let n = natural line c largest in
    let N = natural line n.cursor largest in
    let surface = listed line N.cursor in
    let path = listed line surface.cursor in
    let lent = roomed most_places line path.cursor in
    record {
      cursor = ended line lent.cursor;
      n = n.value.size;
      N = N.value.size;
      surface = surface.numbers;
      path = path.numbers;
      rooms = lent.value;
    }

-- the answer line of a patch whose arrays for numerators and points are lent
unfoldable pub reply_of : Patch → Bool → List ℤ → List ℤ → List ℕ
reply_of p given exact points =
    let a = answer p (length exact) (length points) in
    patch_line a.number a.place a.count
    (take (shown given a.count (length exact)) (exact_after p exact points))
    (take (shown given a.count (length points)) (points_after p exact points))

-- what the places hold beforehand: −7 and −9
unfoldable pub line_of : Asked → List ℕ
line_of a =
    reply_of (patch_of a.n a.N a.surface a.path) a.rooms.given
    (replicate a.rooms.exact (negsuc 6)) (replicate a.rooms.points (negsuc 8))

unfoldable pub spoken : List ℕ → Cursor → Spoken
spoken line c = let a = asked line c in record { cursor = a.cursor; answer = line_of a }
