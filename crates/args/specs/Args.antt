-- The words of a command line, the same in every program. Assumes nothing.
use Rattle.std.specs.Prelude.{Bool, true, false, cond, ◌&&◌, List, [], ◌∷◌, ℕ, ◌+◌, ◌*◌, ◌-◌, eqb, ltb, length, get_or, take, drop, Some, None, Result, Ok, Err}
use Rattle.std.specs.Prelude.{Option as Maybe}
use Rattle.args.specs.declared.Kind.{Kind}
use Rattle.args.specs.declared.Kind.TheVariants.{Help, Version, Rest, Option, Name}
use Rattle.args.specs.declared.NotNumber.{NotNumber}
use Rattle.args.specs.declared.NotNumber.TheVariants.{TooLarge, NoNumber}

-- the same bytes
unfoldable pub alike : List ℕ → List ℕ → Bool
alike [] [] = true
alike [] (b ∷ t) = false
alike (a ∷ s) [] = false
alike (a ∷ s) (b ∷ t) = eqb a b && alike s t

-- `-h`, `--help`, `--version`, `--`
abbrev pub short_help : List ℕ
short_help = 45 ∷ 104 ∷ []

abbrev pub long_help : List ℕ
long_help = 45 ∷ 45 ∷ 104 ∷ 101 ∷ 108 ∷ 112 ∷ []

abbrev pub version_word : List ℕ
version_word = 45 ∷ 45 ∷ 118 ∷ 101 ∷ 114 ∷ 115 ∷ 105 ∷ 111 ∷ 110 ∷ []

abbrev pub rest_word : List ℕ
rest_word = 45 ∷ 45 ∷ []

-- what a word is; `-` and what does not begin with a minus name an input
unfoldable pub kind_of : List ℕ → Kind
kind_of word =
    cond (alike word short_help) Help
    (cond (alike word long_help) Help
    (cond (alike word version_word) Version
    (cond (alike word rest_word) Rest (cond (ltb 1 (length word) && eqb (get_or word 0 0) 45) Option Name))))

-- what follows `prefix` in a word that begins with it
unfoldable pub prefixed : List ℕ → List ℕ → Maybe (List ℕ)
prefixed word prefix = cond (alike (take (length prefix) word) prefix) (Some (drop (length prefix) word)) None

-- the number that a digit is, and none for another byte
unfoldable pub digit_of : ℕ → Maybe ℕ
digit_of b = cond (ltb b 48) None (cond (ltb 57 b) None (Some (b - 48)))

-- a number in decimal digits, up to 18 of them
unfoldable pub count_from : ℕ → List ℕ → Result ℕ NotNumber
count_from n [] = Ok n
count_from n (b ∷ s) =
    elim (digit_of b) [
      | None ↦ Err NoNumber
      | Some d ↦ cond (ltb n 100000000000000000) (count_from (10 * n + d) s) (Err TooLarge)
    ]

unfoldable pub number_in : List ℕ → Result ℕ NotNumber
number_in word = cond (eqb (length word) 0) (Err NoNumber) (count_from 0 word)
