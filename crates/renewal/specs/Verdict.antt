-- The line that is printed at the end. Assumes nothing.
use Rattle.std.specs.Prelude.{Bool, cond, List, [], ◌∷◌, ℕ}
use Rattle.spell.specs.Decimal.{named}

-- `converted n`, or `not converted`
unfoldable pub verdict : Bool → ℕ → List ℕ
verdict refused n =
    cond refused
    (110 ∷ 111 ∷ 116 ∷ 32 ∷ 99 ∷ 111 ∷ 110 ∷ 118 ∷ 101 ∷ 114 ∷ 116 ∷ 101 ∷ 100 ∷ 10 ∷ [])
    (named (99 ∷ 111 ∷ 110 ∷ 118 ∷ 101 ∷ 114 ∷ 116 ∷ 101 ∷ 100 ∷ []) n)

-- with the greatest number of 64 bits it is as many bytes
abbrev pub verdict_room : ℕ
verdict_room = 31
