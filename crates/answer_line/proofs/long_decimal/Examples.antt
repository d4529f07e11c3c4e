-- The least numerator, by its words, as it is written: 23 digits and a sign. Assumes nothing.
use mathlib.Core.Path.{◌≡◌, refl}
use mathlib.Core.List.{[], ◌∷◌}
use lib.IntN.{negsuc}
use Rattle.spell.specs.Decimal.{digits_of, digits, decimal}
use Rattle.two_words.specs.Words.{two_words}

-- `-12178435953951690981376`
least-numerator : decimal (two_words (negsuc 660) 14861878770322636800)
    ≡ 45 ∷ 49 ∷ 50 ∷ 49 ∷ 55 ∷ 56 ∷ 52 ∷ 51 ∷ 53 ∷ 57 ∷ 53 ∷ 51 ∷ 57 ∷ 53 ∷ 49 ∷ 54 ∷ 57 ∷ 48 ∷ 57 ∷ 56 ∷ 49 ∷ 51 ∷ 55 ∷ 54 ∷ []
unfolding two_words decimal digits digits_of
least-numerator = refl
