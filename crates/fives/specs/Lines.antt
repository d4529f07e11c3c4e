-- The five lines as bytes: "calls n", "same n", "differ n", "first n", "rest n". Assumes nothing.
use Rattle.std.specs.Prelude.{List, [], ◌∷◌, ◌++◌, ℕ}
use Rattle.spell.specs.Decimal.{named, Told as ToldOf}
use Rattle.fives.specs.declared.Five.{Five}

-- `calls`, `same`, `differ`, `first`, `rest`
unfoldable pub five_lines : Five → List ℕ
five_lines f =
    named (99 ∷ 97 ∷ 108 ∷ 108 ∷ 115 ∷ []) f.calls
    ++ named (115 ∷ 97 ∷ 109 ∷ 101 ∷ []) f.same
    ++ named (100 ∷ 105 ∷ 102 ∷ 102 ∷ 101 ∷ 114 ∷ []) f.differ
    ++ named (102 ∷ 105 ∷ 114 ∷ 115 ∷ 116 ∷ []) f.first
    ++ named (114 ∷ 101 ∷ 115 ∷ 116 ∷ []) f.rest

-- with the greatest numbers of 64 bits they are as many bytes
abbrev pub lines_room : ℕ
lines_room = 134

-- "nothing is written and 0 is answered" where there is no room for them; otherwise every later byte stays
abbrev pub Told : Five → List ℕ → ℕ → List ℕ → Type 0
Told f = ToldOf lines_room (five_lines f)
