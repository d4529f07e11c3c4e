-- The answer of ticket 11 (rule Part of a curve) for every degree, surface and part: number, place, count, and the bits of five
-- numerators. The contract of `card::drive`. Assumes nothing.
use Rattle.std.specs.Prelude.{◌≡◌, cond, List, [], ◌∷◌, map, ℕ, ltb, ℤ, pos}
use Rattle.std.specs.Int.Signed.{quot_z}
use Rattle.whole.specs.Choose.{choose}
use Rattle.request.specs.declared.Answer.{Answer}
use Rattle.request.specs.Head.{longest}
use Rattle.request.specs.Request.{Request}
use Rattle.request.specs.Cascade.{Test, test, first, decided}
use Rattle.request.specs.Refusal.{not_degree, not_surface, not_value, not_parameter, value_place, parameter_place, accepted}
use Rattle.net.specs.Composed.{numerator}
use Rattle.floats.specs.Float.{float, bits}
use Rattle.part.specs.declared.Part.{Part}
use Rattle.part.specs.declared.Card.{Card}
use Rattle.part.specs.Part.{request_of}

-- "Degree, count and value refusals come first, in 01's order" (rule Refusals), then PARAMETER "with the place of the first bad
-- one, 0 or 1"; "The card has no age", and it lends its own room
unfoldable pub refusals : Request → List Test
refusals rq =
    test 2 (not_degree rq.head) 0
    ∷ test 3 (not_surface rq) 0
    ∷ test 6 (not_value rq) (value_place rq.surface)
    ∷ test 7 (not_parameter rq) (parameter_place rq.path)
    ∷ []

-- accepted: 0, 0 and L + 1 numerators, "one for a stay, m+1 for a line"
unfoldable pub verdict : Request → Answer
verdict rq = decided (first (refusals rq)) (accepted rq.head)

-- "the integer numerator divided by binomial(L, R)"; the division is exact (`divides` in proofs/Promises.antt)
unfoldable pub divided : Request → ℕ → ℤ
divided rq R = quot_z (numerator rq R) (pos (choose (longest rq.head) R))

-- the bits of place R where `count` places are used: "and turned into f64"; an unused place is plus zero, all bits 0
unfoldable pub bits_at : Request → ℕ → ℕ → ℕ
bits_at rq count R = cond (ltb R count) (bits (float (divided rq R))) 0

-- the five places
unfoldable pub five : {A : Type 0} → (ℕ → A) → List A
five f = f 0 ∷ f 1 ∷ f 2 ∷ f 3 ∷ f 4 ∷ []

-- a card that shows an answer, with the numerators of a request: "bit for bit"
pub record Shows (rq : Request) (answer : Answer) (card : Card) : Type 0 where
  pub number_is : card.number ≡ answer.number
  pub place_is : card.place ≡ answer.place
  pub count_is : card.count ≡ answer.count
  pub bits_are : map bits card.numerators ≡ five (bits_at rq answer.count)

-- the contract: "a refused record is all plus zero", since its count is 0
pub record Carded (m : ℕ) (surface : List ℤ) (part : Part) (card : Card) : Type 0 where
  pub shows : Shows (request_of m surface part) (verdict (request_of m surface part)) card
