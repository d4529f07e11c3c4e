-- The two ways that a call of the card ends, by its contract: it is not as it should be, or the card's own record and answer.
-- Assumes nothing.
use mathlib.Core.Path.{◌≡◌, ap, ◌∙◌}
use mathlib.Core.Bool.{true, false}
use mathlib.Core.List.{List, ◌++◌, map, map-append}
use Prim.Native.Nat.{ℕ, ◌≤◌}
use lib.ListN.{length, set, drop}
use lib.Ieee.{Float}
use borrow.Author.Tests.{le-ltb}
use Rattle.request.specs.Request.{Request}
use Rattle.floats.specs.Float.{bits}
use Rattle.part.specs.declared.Card.{Card}
use Rattle.part.specs.Contract.{verdict, Shows}
use Rattle.crossing.specs.Answered.{with_answer}
use Rattle.lean_card.specs.Driven.{not_called, recorded, Driven}

module _ (rq : Request) (line : ℕ) (numerators : List Float) (words : List ℕ) where
  pub not-driven : not_called line numerators words ≡ true → Driven rq line numerators words 1 numerators words
  not-driven t = record { code_is = rw t; bits_are = rw t; words_is = rw t }

  module _ (card : Card) (numerators' : List Float) (one two three : List ℕ) where
    pub driven : 3 ≤ length words → 5 ≤ length numerators → line ≤ 1 → Shows rq (verdict rq) card
        → numerators' ≡ card.numerators ++ drop 5 numerators
        → one ≡ set words 0 card.number → two ≡ set one 1 card.place → three ≡ set two 2 card.count
        → Driven rq line numerators words 0 numerators' three
    unfolding not_called recorded with_answer
    driven w n l s written a b c =
        let t : not_called line numerators words ≡ false = rw (le-ltb _ _ w, le-ltb _ _ n, le-ltb _ _ l) in
        let later = map bits (drop 5 numerators) in
        record {
          code_is = rw t;
          bits_are = rw t (ap (map bits) written ∙ map-append bits card.numerators (drop 5 numerators) ∙ ap (λ x. x ++ later) s.bits_are);
          words_is = rw (t, c, b, a, s.number_is, s.place_is, s.count_is);
        }
