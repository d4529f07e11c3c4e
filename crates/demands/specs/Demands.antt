-- The three demands on the lean curve, each of every result that the composer's contract allows, determinacy, and that port
-- and starboard mirror. What the contract allows is in Rattle.compose.specs.Contract, the documents' words are in the
-- definitions that are cited here. Assumes nothing.
use Rattle.std.specs.Prelude.{◌≡◌, refl, List, [], ◌∷◌, ℕ, zero, suc, ◌+◌, ◌*◌, ◌^◌, ◌≤◌, ◌<◌, ℤ, pos, neg_ℤ, nat_abs, ◌-ℤ◌, ◌*ℤ◌, get_or}
use Rattle.std.proofs.Common.{sym, ◌∙◌, arith}
use Rattle.std.proofs.Math.Path.{ap}
use Rattle.std.proofs.Math.Option.{none, some}
use Rattle.std.proofs.Math.IntN.{one, pow}
use Rattle.whole.specs.Round.{nearest}
use Rattle.whole.specs.Sum.{sum_over}
use Rattle.whole.specs.Choose.{choose}
use Rattle.whole.proofs.Determined.{Determined}
use Rattle.two_words.specs.Words.{two_words, high_word, low_word, IsWords}
use Rattle.two_words.proofs.Only.{words_are}
use Rattle.request.specs.declared.Answer.{Answer}
use Rattle.request.specs.declared.Rooms.{Rooms}
use Rattle.request.specs.Head.{by_form, degree, longest, numbers}
use Rattle.request.specs.Request.{Request}
use Rattle.request.specs.Cascade.{Test, first, refused, decided}
use Rattle.request.specs.Refusal.{refusals, answer, accepted}
use Rattle.request.proofs.Accepted.{accepts}
use Rattle.net.specs.Net.{row_start, place_of, net_of, number_at, path_number}
use Rattle.net.specs.Composed.{numerator, denominator, point}
use Rattle.net.specs.Reading.{bernstein, drawn, coordinate, scale, surface_read}
use Rattle.net.specs.Mirror.{mirrored}
use Rattle.compose.specs.Afterwards.{afterwards, Arrays, arrays, rooms_of, high_after, low_after, points_after}
use Rattle.compose.specs.Contract.{Composed}
use Rattle.lists.proofs.Written.{afterwards-none, afterwards-at, afterwards-past}
use Rattle.demands.specs.Rides.{curve}
use Rattle.compose.proofs.Demand3.{demand3 as at-every-moment}

-- what the composer leaves: its answer, the entries that it reports and the three arrays
pub record Result : Type 0 where
  pub answer : Answer
  pub entries : ℕ
  pub left : Arrays

-- the results that the contract allows, for a request, the age of the tilt sample and the arrays as they were lent
abbrev pub Allowed : Request → ℕ → Arrays → Result → Type 0
Allowed rq age lent r = Composed rq age lent (record { answer = r.answer; entries = r.entries }) r.left

-- Determinacy. Any two results that the contract allows are equal (`any-two` of Rattle.whole.proofs.Determined).
pub determined : (rq : Request) (age : ℕ) (lent : Arrays) → Determined (Allowed rq age lent)
determined rq age lent = record {
  value = record { answer = _; entries = _; left = arrays _ _ _ };
  only = λ r c t. record { answer = c.answered t; entries = c.counted t; left = arrays (c.high_is t) (c.low_is t) (c.points_is t) };
}

-- The other public functions below the composer answer one value, r ≡ that of a definition: such a contract leaves no choice.
pub equation : {A : Type 0} (value : A) → Determined (λ r. r ≡ value)
equation value = record { value = value; only = λ r e. e }

-- `judge` is one of them: the answer alone, of the same table.
pub judge-determined : (rq : Request) (age : ℕ) (rooms : Rooms) → Determined (λ a. a ≡ answer rq age rooms)
judge-determined rq age rooms = equation (answer rq age rooms)

-- Demand 1. The composition ends (that is the checker's own promise of every function). Where a test is the first of the
-- table of nine that holds, the answer is its number, its place and count 0, and the three arrays are as they were; where none
-- holds, it is 0, 0 and L+1. (The table is `refusals` of Rattle.request.specs.Refusal; `first-exact` of
-- Rattle.request.proofs.Cascade: a test is the first exactly where it holds and none before it in the table does.)
pub record Demand1 (rq : Request) (age : ℕ) (lent : Arrays) (r : Result) : Type 0 where
  pub refusal : (t : Test) → first (refusals rq age (rooms_of lent)) ≡ some t
      → (r.answer ≡ record { number = t.number; place = t.place; count = 0 }) × (r.left ≡ lent)
  pub acceptance : first (refusals rq age (rooms_of lent)) ≡ none
      → r.answer ≡ record { number = 0; place = 0; count = longest rq.head + 1 }

-- every place beyond L is as it was lent
abbrev pub Stays : {A : Type 0} → A → Request → List A → List A → Type 0
Stays other rq lent after = (R : ℕ) → longest rq.head < R → get_or after R other ≡ get_or lent R other

-- so it is with P1's two points before a third place, and R = 1 is not beyond L
pub worked-stays : Stays (pos 0) (curve 1 1 (pos 0 ∷ pos 100 ∷ []) (pos 0 ∷ pos 1024 ∷ [])) (pos 5 ∷ pos 6 ∷ pos 7 ∷ []) (pos 0 ∷ pos 100 ∷ pos 7 ∷ [])
unfolding curve by_form degree longest
worked-stays zero m = absurd (omega arith)
worked-stays (suc zero) m = absurd (omega arith)
worked-stays (suc (suc R)) m = refl

-- Demand 2. Where a request is accepted, each exact numerator at R = 0 to L is the whole number of the blossom sum
-- (rule Composed net; document 000, equation 8; document 004, Corollary 1): the high and the low word there are worth it, and no
-- other two words are (`words-only` of Rattle.two_words.proofs.Only). Each rounded point is that over binomial(L, R)·1024^r,
-- rounded, and every later place of the three arrays stays.
pub record Demand2 (rq : Request) (lent : Arrays) (r : Result) : Type 0 where
  pub numerators : r.answer.number ≡ 0 → (R : ℕ) → R ≤ longest rq.head
      → IsWords (numerator rq R) (get_or r.left.high R (pos 0)) (get_or r.left.low R 0)
  pub rounded : r.answer.number ≡ 0 → (R : ℕ) → R ≤ longest rq.head
      → get_or r.left.points R (pos 0) ≡ nearest (numerator rq R) (choose (longest rq.head) R * 1024 ^ degree rq.head)
  pub high_rest : r.answer.number ≡ 0 → Stays (pos 0) rq lent.high r.left.high
  pub low_rest : r.answer.number ≡ 0 → Stays 0 rq lent.low r.left.low
  pub points_rest : r.answer.number ≡ 0 → Stays (pos 0) rq lent.points r.left.points

-- twice the difference of the curve drawn from points and the surface at the path's place, at the moment k/q, both scaled by
-- 1024^r·q^L to whole numbers
abbrev pub twice_off : Request → List ℤ → ℕ → ℕ → ℕ
twice_off rq points k q =
    nat_abs (pos 2 *ℤ (pos (1024 ^ degree rq.head) *ℤ drawn (longest rq.head) points k q -ℤ surface_read rq k q))

abbrev pub WithinHalf : Request → List ℤ → ℕ → ℕ → Type 0
WithinHalf rq points k q = twice_off rq points k q ≤ 1024 ^ degree rq.head * q ^ longest rq.head

-- half a unit is reached: F 0, 1 at the one path number 512 is 0.5, and the point is 1
abbrev halfway : Request
halfway = curve 1 0 (pos 0 ∷ pos 1 ∷ []) (pos 512 ∷ [])

pub half-reached : twice_off halfway (pos 1 ∷ []) 1 3 ≡ 1024 ^ degree halfway.head * 3 ^ longest halfway.head
unfolding curve by_form degree longest numbers row_start place_of net_of number_at path_number bernstein drawn coordinate scale
    surface_read sum_over choose pow one
half-reached = refl

pub worked-half : WithinHalf halfway (pos 1 ∷ []) 1 3
worked-half = omega (arith, half-reached)

-- Demand 3. Where a request is accepted, at every moment k/q the curve drawn from the rounded points lies within half a unit
-- of the surface at the path's place: twice the difference is at most the scale. Both sides are read by Bernstein's formula
-- (Rattle.net.specs.Reading); no blossom is in the statement.
pub record Demand3 (rq : Request) (r : Result) : Type 0 where
  pub within_half : r.answer.number ≡ 0 → (k q : ℕ) → 1 ≤ q → k ≤ q → WithinHalf rq r.left.points k q

-- what the two words of place R are worth
abbrev pub worth_at : Arrays → ℕ → ℤ
worth_at left R = two_words (get_or left.high R (pos 0)) (get_or left.low R 0)

-- Rule Port and starboard (02, ticket 2). "All control values negated, all points negated": of a result r for a request and a
-- result s for the mirrored request, the answers are the same, and where they are acceptances, every numerator and every
-- point at R = 0 to L of the one is that of the other negated.
pub record Mirror (rq : Request) (r s : Result) : Type 0 where
  pub answer : s.answer ≡ r.answer
  pub numerators : r.answer.number ≡ 0 → (R : ℕ) → R ≤ longest rq.head → worth_at s.left R ≡ neg_ℤ (worth_at r.left R)
  pub rounded : r.answer.number ≡ 0 → (R : ℕ) → R ≤ longest rq.head
      → get_or s.left.points R (pos 0) ≡ neg_ℤ (get_or r.left.points R (pos 0))

module _ (rq : Request) (age : ℕ) (lent : Arrays) (r : Result) (allowed : Allowed rq age lent r) where
  abbrev count : ℕ
  count = (answer rq age (rooms_of lent)).count

  -- an acceptance writes L + 1 places
  all : r.answer.number ≡ 0 → count ≡ longest rq.head + 1
  unfolding accepted
  all e =
      let zero_is = ap (λ (a : Answer). a.number) (sym allowed.answered) ∙ e in
      ap (λ (a : Answer). a.count) (accepts rq age (rooms_of lent) zero_is).answered

  written : {A : Type 0} (other : A) (f : ℕ → A) (l : List A) → r.answer.number ≡ 0 → (R : ℕ) → R ≤ longest rq.head
      → get_or (afterwards count f l) R other ≡ f R
  written other f l e R m = let c = all e in afterwards-at count f l R other (omega arith)

  -- where nothing is counted nothing is written
  kept : {A : Type 0} (f : ℕ → A) (l : List A) → count ≡ 0 → afterwards count f l ≡ l
  kept f l z = ap (λ n. afterwards n f l) z ∙ afterwards-none f l

  unchanged : count ≡ 0 → r.left ≡ lent
  unfolding high_after low_after points_after
  unchanged z =
      let high : r.left.high ≡ lent.high = allowed.high_is ∙ kept (λ R. high_word (numerator rq R)) lent.high z in
      let low : r.left.low ≡ lent.low = allowed.low_is ∙ kept (λ R. low_word (numerator rq R)) lent.low z in
      let points : r.left.points ≡ lent.points = allowed.points_is ∙ kept (point rq) lent.points z in
      λ i. arrays (high i) (low i) (points i)

  pub demand1 : Demand1 rq age lent r
  unfolding answer decided refused accepted
  demand1 = record {
    refusal = λ t e. (allowed.answered ∙ rw e, unchanged (ap (λ o. (decided o (accepted rq.head)).count) e));
    acceptance = λ e. allowed.answered ∙ rw e;
  }

  pub demand2 : Demand2 rq lent r
  unfolding high_after low_after points_after point denominator
  demand2 = record {
    numerators = λ e R m.
        rw (
          allowed.high_is,
          allowed.low_is,
          written (pos 0) (λ R. high_word (numerator rq R)) lent.high e R m,
          written 0
              (λ R. low_word (numerator rq R)) lent.low e R m,
        )
        (words_are (numerator rq R));
    rounded = λ e R m. rw allowed.points_is (written (pos 0) (point rq) lent.points e R m);
    high_rest = λ e R m. let c = all e in rw allowed.high_is (afterwards-past count (λ R. high_word (numerator rq R)) lent.high R (pos 0) (omega arith));
    low_rest = λ e R m. let c = all e in rw allowed.low_is (afterwards-past count (λ R. low_word (numerator rq R)) lent.low R 0 (omega arith));
    points_rest = λ e R m. let c = all e in rw allowed.points_is (afterwards-past count (point rq) lent.points R (pos 0) (omega arith));
  }

  pub demand3 : Demand3 rq r
  demand3 = record {
    within_half = λ e k q some m.
        let zero_is = ap (λ (a : Answer). a.number) (sym allowed.answered) ∙ e in
        rw allowed.points_is (at-every-moment rq age lent zero_is k q m);
  }
