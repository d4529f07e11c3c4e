-- Two answer lines. Assumes nothing.
use mathlib.Core.Path.{◌≡◌, refl}
use mathlib.Core.List.{List, [], ◌∷◌}
use Prim.Native.Nat.{ℕ}
use lib.IntN.{pos}
use Rattle.spell.specs.Decimal.{digits_of, digits, decimal}
use Rattle.answer_line.specs.Answer.{spaced, judged, verdict, lists, answer_line}

-- `0 0 2 31 | 0 102400 | 0 100` and `1 0 0 0 | |`
answers : List (List ℕ)
answers = answer_line 0 0 2 31 (pos 0 ∷ pos 102400 ∷ []) (pos 0 ∷ pos 100 ∷ []) ∷ answer_line 1 0 0 0 [] [] ∷ []

answers-are : answers
    ≡ (48 ∷ 32 ∷ 48 ∷ 32 ∷ 50 ∷ 32 ∷ 51 ∷ 49 ∷ 32 ∷ 124 ∷ 32 ∷ 48 ∷ 32 ∷ 49 ∷ 48 ∷ 50 ∷ 52 ∷ 48 ∷ 48 ∷ 32 ∷ 124 ∷ 32 ∷ 48 ∷ 32 ∷ 49 ∷ 48 ∷ 48 ∷ 10 ∷ [])
    ∷ (49 ∷ 32 ∷ 48 ∷ 32 ∷ 48 ∷ 32 ∷ 48 ∷ 32 ∷ 124 ∷ 32 ∷ 124 ∷ 10 ∷ [])
    ∷ []
unfolding answers answer_line verdict judged lists spaced decimal digits digits_of
answers-are = refl
