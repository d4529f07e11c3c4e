-- Laws of the words of a command line. Assumes nothing.
use Rattle.std.proofs.Common.{◌≡◌, ℕ, ◌+◌, ◌*◌, ◌≤◌, ◌<◌, refl, ap, true, false, ◌&&◌, List, [], ◌∷◌, eqb, length, get_or, take, drop, drop-cons, drop_of_length-le, add-one, eq-eqb, ne_eqb, Some, None, Ok, Err, arith}
use Rattle.std.specs.Cmp.Lexicographic.{pointwise}
use Rattle.std.proofs.lemmas.Bool.{lt-ltb, le-ltb}
use Rattle.std.proofs.lemmas.Grind.{common_steps}
use Rattle.std.specs.Prelude.{Option as Maybe}
use Rattle.std.specs.Option.{SomeIff}
use Rattle.std.specs.Char.{digit_value}
use Rattle.args.specs.Args.{alike, prefixed, digit_of, count_from, number_in}
use Rattle.args.specs.declared.NotNumber.TheVariants.{TooLarge, NoNumber}

-- the same bytes, in the library's word
pub alike-pointwise : (s t : List ℕ) → alike s t ≡ pointwise eqb s t
unfolding alike
alike-pointwise [] [] = refl
alike-pointwise [] (b ∷ t) = refl
alike-pointwise (a ∷ s) [] = refl
alike-pointwise (a ∷ s) (b ∷ t) = ap (λ x. eqb a b && x) (alike-pointwise s t)

-- a word that does not begin so, and one that does
pub begins-not : (word front : List ℕ) → pointwise eqb (take (length front) word) front ≡ false → prefixed word front ≡ None
unfolding prefixed
begins-not word front e = rw (alike-pointwise (take (length front) word) front, e)

pub begins : (word front : List ℕ) → pointwise eqb (take (length front) word) front ≡ true → prefixed word front ≡ Some (drop (length front) word)
unfolding prefixed
begins word front e = rw (alike-pointwise (take (length front) word) front, e)

-- a digit is below ten
pub below-ten : (b d : ℕ) → digit_of b ≡ Some d → d < 10
unfolding digit_of
below-ten b d e = grind (arith, common_steps)

-- the library's digit
pub to-digit : (b x : ℕ) (o : Maybe ℕ) → x ≡ b → SomeIff o (digit_value x < 10) (digit_value x) → o ≡ digit_of b
unfolding digit_of
to-digit b x None e h = grind (arith, common_steps)
to-digit b x (Some d) e h = grind (arith, common_steps)

-- no word at all, and a word that is read digit after digit
pub no_word : (word : List ℕ) → length word ≡ 0 → Err NoNumber ≡ number_in word
unfolding number_in
no_word word e = rw (eq-eqb _ 0 e)

pub some_word : (word : List ℕ) → (length word ≡ 0 → ⊥) → number_in word ≡ count_from 0 (drop 0 word)
unfolding number_in
some_word word e = rw (ne_eqb _ 0 e)

pub all_read : (word : List ℕ) (i n : ℕ) → length word ≤ i → count_from n (drop i word) ≡ Ok n
unfolding count_from
all_read word i n l = rw (drop_of_length-le word l)

module _ (word : List ℕ) (i n : ℕ) (h : i < length word) where
  pub no_digit : digit_of (get_or word i 0) ≡ None → count_from n (drop i word) ≡ Err NoNumber
  unfolding count_from
  no_digit e = rw (drop-cons word i 0 h, count_from, e)

  pub too_large : (d : ℕ) → digit_of (get_or word i 0) ≡ Some d → 100000000000000000 ≤ n → count_from n (drop i word) ≡ Err TooLarge
  unfolding count_from
  too_large d e l = rw (drop-cons word i 0 h, count_from, e, le-ltb n 100000000000000000 l)

  pub digit-more : (d : ℕ) → digit_of (get_or word i 0) ≡ Some d → n < 100000000000000000 → count_from n (drop i word) ≡ count_from (10 * n + d) (drop (i + 1) word)
  unfolding count_from
  digit-more d e l = rw (add-one i, drop-cons word i 0 h, count_from, e, lt-ltb n 100000000000000000 l)
