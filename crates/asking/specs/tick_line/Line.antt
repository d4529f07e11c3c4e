-- A tick line: `tick count point.. k`, answered by `number place reading`, the reading of the curve of the points at k/1024 as
-- ticket 9 has it (rule Reading at a tick), or its refusal. Assumes nothing.
use Rattle.std.specs.Prelude.{List, [], ◌∷◌, ℕ, ℤ}
use Rattle.text.specs.declared.words.Cursor.{Cursor}
use Rattle.text.specs.kinds.Kinds.{ended, Spoken}
use Rattle.text.specs.numbers.Numbers.{largest, natural, listed}
use Rattle.tick.specs.declared.Tick.{Tick}
use Rattle.tick.specs.Told.{told}
use Rattle.answer_line.specs.Answer.{reading_line}

-- `tick`
abbrev pub tick_word : List ℕ
tick_word = 116 ∷ 105 ∷ 99 ∷ 107 ∷ []

-- what stands behind it: a list of points, and k
pub record Asked : Type 0 where
  pub cursor : Cursor
  pub points : List ℤ
  pub k : ℕ

unfoldable pub asked : List ℕ → Cursor → Asked
asked line c =
    let points = listed line c in
    let k = natural line points.cursor largest in
    record { cursor = ended line k.cursor; points = points.numbers; k = k.value.size }

unfoldable pub tick_answer : Tick → List ℕ
tick_answer t = reading_line t.number t.place t.reading

unfoldable pub spoken : List ℕ → Cursor → Spoken
spoken line c = let a = asked line c in record { cursor = a.cursor; answer = tick_answer (told a.points a.k) }
