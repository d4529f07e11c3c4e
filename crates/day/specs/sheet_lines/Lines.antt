-- The fourteen lines as bytes: `odd n`, then `refusal 0 n` to `refusal 10 n`, then `least v` and `most v`. Assumes nothing.
use Rattle.std.specs.Prelude.{Bool, cond, List, [], ◌∷◌, ◌++◌, ℕ, suc, ℤ}
use Rattle.spell.specs.Decimal.{digits, decimal, named, Told as ToldOf}
use Rattle.day.specs.declared.sheets.Sheet.{Sheet}

-- `refusal n`, how many, and a newline
unfoldable pub refusal_line : ℕ → ℕ → List ℕ
refusal_line n count = named ((114 ∷ 101 ∷ 102 ∷ 117 ∷ 115 ∷ 97 ∷ 108 ∷ 32 ∷ []) ++ digits n) count

-- from number n on
unfoldable pub refusal_lines : ℕ → List ℕ → List ℕ
refusal_lines n [] = []
refusal_lines n (count ∷ counts) = refusal_line n count ++ refusal_lines (suc n) counts

-- a point, "`none` where there are none"
unfoldable pub value_of : Bool → ℤ → List ℕ
value_of some z = cond some (decimal z) (110 ∷ 111 ∷ 110 ∷ 101 ∷ [])

-- a name, the point and a newline
unfoldable pub point_line : List ℕ → Bool → ℤ → List ℕ
point_line name some z = name ++ value_of some z ++ 10 ∷ []

-- `odd`, the refusals, `least`, `most`
unfoldable pub sheet_lines : Sheet → List ℕ
sheet_lines s =
    named (111 ∷ 100 ∷ 100 ∷ []) s.odd
    ++ refusal_lines 0 s.refusals
    ++ point_line (108 ∷ 101 ∷ 97 ∷ 115 ∷ 116 ∷ 32 ∷ []) s.span.some s.span.least
    ++ point_line (109 ∷ 111 ∷ 115 ∷ 116 ∷ 32 ∷ []) s.span.some s.span.most

-- so many bytes are enough for a line of a refusal and for all lines, whatever the numbers are
abbrev pub refusal_room : ℕ
refusal_room = 50

abbrev pub lines_room : ℕ
lines_room = 628

-- "nothing is written and 0 is answered" where there is no room for them; otherwise every later byte stays
abbrev pub Told : Sheet → List ℕ → ℕ → List ℕ → Type 0
Told s = ToldOf lines_room (sheet_lines s)
