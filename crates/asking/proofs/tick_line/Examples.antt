-- Worked tick lines as tables: lines with their answers, the reading reckoned apart from this program; lines with something wrong, each
-- with where the wrong word stands, the columns counted by hand; and lines that are no tick lines. Assumes nothing.
use mathlib.Core.Path.{◌≡◌, refl}
use mathlib.Core.Bool.{false}
use mathlib.Core.List.{List, [], ◌∷◌, map}
use Prim.Native.Nat.{ℕ}
use Rattle.std.proofs.Common.{Some}
use Rattle.text.specs.declared.words.Wrong.TheVariants.{NotNumber, Outside, TooFew, LeftOver}
use Rattle.whole.specs.Round.{half_up, on_side_of, nearest}
use Rattle.request.specs.units.Bounds.{beyond_travel}
use Rattle.request.specs.Cascade.{first, refused, decided}
use Rattle.request.specs.Refusal.{least, value_place}
use Rattle.spell.specs.Decimal.{digits_of, digits, decimal}
use Rattle.text.specs.words.Words.{is_blank, is_solid, is_digit, run, every, word_after, next, spelled, signed, size_within, number_of, begins}
use Rattle.text.specs.kinds.Kinds.{begun, ended, is_word, is_kind, opened, Spoken}
use Rattle.text.specs.numbers.Numbers.{taken, number, value, after_values, values, listed}
use Rattle.tick.specs.Reading.{carried, between, lower, after, reading}
use Rattle.tick.specs.Told.{not_net, not_point, not_moment, refusals, judged, told}
use Rattle.answer_line.specs.Answer.{reading_line}
use Rattle.answer_line.specs.Answer as lines
use Rattle.asking.specs.tick_line.Line.{tick_word, asked, tick_answer, spoken}

says : List ℕ → Spoken
says line = spoken line (opened line)

-- `tick 3 2 3 -2 341`, `TAB tick 2 7 4097 1025`, `tick 0 5 CR`, `tick 1 -7 1025`
good : List (List ℕ)
good =
    (116 ∷ 105 ∷ 99 ∷ 107 ∷ 32 ∷ 51 ∷ 32 ∷ 50 ∷ 32 ∷ 51 ∷ 32 ∷ 45 ∷ 50 ∷ 32 ∷ 51 ∷ 52 ∷ 49 ∷ [])
    ∷ (9 ∷ 116 ∷ 105 ∷ 99 ∷ 107 ∷ 32 ∷ 50 ∷ 32 ∷ 55 ∷ 32 ∷ 52 ∷ 48 ∷ 57 ∷ 55 ∷ 32 ∷ 49 ∷ 48 ∷ 50 ∷ 53 ∷ [])
    ∷ (116 ∷ 105 ∷ 99 ∷ 107 ∷ 32 ∷ 48 ∷ 32 ∷ 53 ∷ 13 ∷ [])
    ∷ (116 ∷ 105 ∷ 99 ∷ 107 ∷ 32 ∷ 49 ∷ 32 ∷ 45 ∷ 55 ∷ 32 ∷ 49 ∷ 48 ∷ 50 ∷ 53 ∷ [])
    ∷ []

-- `0 0 131115`, `6 1 0`, `3 0 0` and `11 0 0`
good-are : map (λ line. (says line).answer) good
    ≡ (48 ∷ 32 ∷ 48 ∷ 32 ∷ 49 ∷ 51 ∷ 49 ∷ 49 ∷ 49 ∷ 53 ∷ 10 ∷ [])
    ∷ (54 ∷ 32 ∷ 49 ∷ 32 ∷ 48 ∷ 10 ∷ [])
    ∷ (51 ∷ 32 ∷ 48 ∷ 32 ∷ 48 ∷ 10 ∷ [])
    ∷ (49 ∷ 49 ∷ 32 ∷ 48 ∷ 32 ∷ 48 ∷ 10 ∷ [])
    ∷ []
unfolding good says spoken asked tick_answer reading_line lines.judged told judged refusals first refused decided not_net not_point not_moment value_place
    least beyond_travel reading after lower between carried nearest on_side_of half_up decimal digits digits_of opened begun ended listed values after_values value number taken number_of
    size_within signed spelled next word_after every run is_digit is_solid is_blank
good-are = refl

-- `tick 2 7 8`, `tick 1 7 8 9`, `tick 1 7x 8`, `tick 65 0`: too few words, `9` left over, `7x` no number, `65` outside its bounds
bad : List (List ℕ)
bad =
    (116 ∷ 105 ∷ 99 ∷ 107 ∷ 32 ∷ 50 ∷ 32 ∷ 55 ∷ 32 ∷ 56 ∷ [])
    ∷ (116 ∷ 105 ∷ 99 ∷ 107 ∷ 32 ∷ 49 ∷ 32 ∷ 55 ∷ 32 ∷ 56 ∷ 32 ∷ 57 ∷ [])
    ∷ (116 ∷ 105 ∷ 99 ∷ 107 ∷ 32 ∷ 49 ∷ 32 ∷ 55 ∷ 120 ∷ 32 ∷ 56 ∷ [])
    ∷ (116 ∷ 105 ∷ 99 ∷ 107 ∷ 32 ∷ 54 ∷ 53 ∷ 32 ∷ 48 ∷ [])
    ∷ []

bad-are : map (λ line. (says line).cursor) bad
    ≡ record { start = 10; end = 10; wrong = Some TooFew }
    ∷ record { start = 11; end = 12; wrong = Some LeftOver }
    ∷ record { start = 7; end = 9; wrong = Some NotNumber }
    ∷ record { start = 5; end = 7; wrong = Some Outside }
    ∷ []
unfolding bad says spoken asked opened begun ended listed values after_values value number taken number_of size_within signed spelled next word_after every run is_digit
    is_solid is_blank
bad-are = refl

-- `ticks 1 7 8`, `tic 1 7 8`, `Tick 1 7 8`, `1 tick`
others : List (List ℕ)
others =
    (116 ∷ 105 ∷ 99 ∷ 107 ∷ 115 ∷ 32 ∷ 49 ∷ 32 ∷ 55 ∷ 32 ∷ 56 ∷ [])
    ∷ (116 ∷ 105 ∷ 99 ∷ 32 ∷ 49 ∷ 32 ∷ 55 ∷ 32 ∷ 56 ∷ [])
    ∷ (84 ∷ 105 ∷ 99 ∷ 107 ∷ 32 ∷ 49 ∷ 32 ∷ 55 ∷ 32 ∷ 56 ∷ [])
    ∷ (49 ∷ 32 ∷ 116 ∷ 105 ∷ 99 ∷ 107 ∷ [])
    ∷ []

others-are : map (λ line. is_kind line (opened line) tick_word) others ≡ false ∷ false ∷ false ∷ false ∷ []
unfolding others is_kind is_word begins opened begun next word_after run is_solid is_blank
others-are = refl
