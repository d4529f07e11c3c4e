-- A number as it is written, and a named number. Assumes nothing.
use mathlib.Core.Path.{◌≡◌, refl}
use mathlib.Core.List.{[], ◌∷◌}
use lib.IntN.{negsuc}
use Rattle.spell.specs.Decimal.{digits_of, digits, decimal, named}

-- `-2500`
written : decimal (negsuc 2499) ≡ 45 ∷ 50 ∷ 53 ∷ 48 ∷ 48 ∷ []
unfolding decimal digits digits_of
written = refl

-- `rest 18` and a newline
rest-18 : named (114 ∷ 101 ∷ 115 ∷ 116 ∷ []) 18 ≡ 114 ∷ 101 ∷ 115 ∷ 116 ∷ 32 ∷ 49 ∷ 56 ∷ 10 ∷ []
unfolding named digits digits_of
rest-18 = refl
