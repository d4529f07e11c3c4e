-- What the entry does with an answer: a refusal leaves the three arrays and reports no entries, an acceptance writes the words of the
-- numerators and the rounded points. Assumes nothing.
use mathlib.Core.Path.{◌≡◌, refl, sym, ap, ◌∙◌}
use mathlib.Core.Bool.{Bool, true, false}
use mathlib.Core.List.{List}
use Prim.Native.Nat.{ℕ, ◌+◌, ◌*◌, ◌-◌, ◌≤◌}
use native.Mathlib.Omega.{arith}
use lib.Dec.{eqb}
use lib.IntN.{ℤ}
use lib.ListN.{length}
use borrow.Author.Tests.{ltb-false, eq-eqb, ne_eqb, eqb-true, eqb-false}
use Rattle.two_words.specs.Words.{high_word, low_word}
use Rattle.request.specs.declared.Answer.{Answer}
use Rattle.request.specs.declared.Head.{Head}
use Rattle.request.specs.declared.Rooms.{Rooms}
use Rattle.request.specs.Head.{most_degree, most_n, most_points, degree, longest}
use Rattle.request.specs.Request.{Request}
use Rattle.request.specs.Refusal.{answer, accepted, value_place, parameter_place, balance_place, not_value, not_parameter, not_balance, not_room}
use Rattle.request.proofs.Forms.{degree-most, longest-most, at-curve, at-tensor, at-triangle, or-none}
use Rattle.request.proofs.Bounds.{parameter-most, value-most, balance-most}
use Rattle.request.proofs.Accepted.{Accepted, accepts, refusal-empty}
use Rattle.net.specs.Composed.{denominator, point}
use Rattle.net.specs.Sizes.{Composable}
use Rattle.net.proofs.Bounds.{numerator-size}
use Rattle.sums.specs.Contract.{Summed, Formed}
use Rattle.compose.specs.Afterwards.{afterwards, Arrays, rooms_of, high_after, low_after, points_after, ride_tree, entries_of, entries_after}
use Rattle.compose.specs.writing.Placed.{rounded_at, PointsAt, Enough, Wrote}
use Rattle.compose.specs.Contract.{Composed}
use Rattle.lists.proofs.Written.{afterwards-none, afterwards-same}

-- a refusal leaves everything as it was
pub refused-result : (rq : Request) (age : ℕ) (lent : Arrays) (a : Answer) → a ≡ answer rq age (rooms_of lent) → (a.number ≡ 0 → ⊥)
    → Composed rq age lent (record { answer = a; entries = 0 }) lent
unfolding high_after low_after points_after entries_after
refused-result rq age lent a e some =
    let none : (answer rq age (rooms_of lent)).count ≡ 0 = refusal-empty rq age (rooms_of lent) (rw e at some) in
    record {
      answered = e;
      counted = rw (ne_eqb _ _ (rw e at some));
      high_is = rw none (sym (afterwards-none _ lent.high));
      low_is = rw none (sym (afterwards-none _ lent.low));
      points_is = rw none (sym (afterwards-none _ lent.points));
    }

-- forms 1 and 3 report what was formed
told : (h : Head) (n : ℕ) → Formed h n → (h.form ≡ 2 → ⊥) → (b : Bool) → eqb h.form 1 ≡ b → n ≡ entries_of h
unfolding entries_of ride_tree
told h n f no2 true e = let is = eqb-true _ _ e in f.curve is ∙ sym (at-curve h _ _ _ is)
told h n f no2 false e = let no1 = eqb-false _ _ e in f.triangle no1 no2 ∙ sym (at-triangle h _ _ _ no1 no2)

pub entries-told : (h : Head) (n : ℕ) → Formed h n → (h.form ≡ 2 → ⊥) → n ≡ entries_of h
entries-told h n f no2 = told h n f no2 (eqb h.form 1) refl

pub entries_none : (h : Head) → h.form ≡ 2 → 0 ≡ entries_of h
unfolding entries_of
entries_none h is = sym (at-tensor h _ _ _ is)

-- an answer of number 0 is an acceptance
pub grants : (rq : Request) (age : ℕ) (rooms : Rooms) (a : Answer) → a ≡ answer rq age rooms → a.number ≡ 0 → Accepted rq age rooms
grants rq age rooms a eq number = accepts rq age rooms (ap (λ (b : Answer). b.number) (sym eq) ∙ number)

-- what acceptance leaves of a request
pub composable : (rq : Request) (age : ℕ) (rooms : Rooms) → Accepted rq age rooms → Composable rq
unfolding not_value not_parameter not_balance
composable rq age rooms f =
    let v : length rq.surface ≤ value_place rq.surface = ltb-false _ _ f.value in
    let m : length rq.path ≤ parameter_place rq.path = ltb-false _ _ f.parameter in
    record {
      small = f.degrees;
      travels = let b = value-most rq.surface in omega arith;
      good = record {
        numbers = let b = parameter-most rq.path in omega arith;
        even = λ no1 no2.
            let w : rq.head.N + 1 ≤ balance_place rq.path rq.head.N = ltb-false _ _ (sym (at-triangle rq.head _ _ _ no1 no2) ∙ f.balance) in
            let b = balance-most rq.path rq.head.N in
            omega arith;
      };
    }

-- the count of an acceptance
pub record Granted (rq : Request) (lent : Arrays) (count : ℕ) : Type 0 where
  pub is : count ≡ longest rq.head + 1
  pub most : count ≤ most_points
  pub enough : Enough lent count

pub granted : (rq : Request) (age : ℕ) (lent : Arrays) (a : Answer) → a ≡ answer rq age (rooms_of lent) → a.number ≡ 0 → Granted rq lent a.count
unfolding accepted not_room longest
granted rq age lent a eq number =
    let f = grants rq age (rooms_of lent) a eq number in
    let is : a.count ≡ degree rq.head * rq.head.N + 1 = ap (λ (b : Answer). b.count) (eq ∙ f.answered) in
    let L : longest rq.head ≤ most_degree * most_n = longest-most rq.head f.degrees in
    let all = or-none _ _ f.room in
    let words = or-none _ _ all.0 in
    let x : longest rq.head + 1 ≤ length lent.high = ltb-false _ _ words.0 in
    let y : longest rq.head + 1 ≤ length lent.low = ltb-false _ _ words.1 in
    let z : longest rq.head + 1 ≤ length lent.points = ltb-false _ _ all.1 in
    record { is = is; most = omega arith; enough = record { high = omega arith; low = omega arith; points = omega arith } }

module _ (rq : Request) (sums : List ℤ) (r count : ℕ) (fine : Composable rq) (n : Summed rq sums) (s : r ≡ degree rq.head)
    (c : count ≡ longest rq.head + 1) where
  -- L, as the count has it
  L : count - 1 ≡ longest rq.head
  L = omega arith

  pub points-at : count ≤ most_points → PointsAt sums count r
  unfolding denominator
  points-at m = record {
    row = m;
    few = rw s (degree-most rq.head fine.small);
    long = let l = n.long in omega arith;
    small = n.small;
    within = λ R l. rw (n.each R, L, s) (numerator-size rq fine R);
  }

  -- what is rounded is the rounded point
  rounds : (R : ℕ) → rounded_at sums (count - 1) r R ≡ point rq R
  unfolding rounded_at point denominator
  rounds R = rw (n.each R, L, s)

  pub accepted-result : (age : ℕ) (lent : Arrays) (a : Answer) (k : ℕ) → a ≡ answer rq age (rooms_of lent) → a.number ≡ 0 → a.count ≡ count
      → k ≡ entries_of rq.head → (left : Arrays) → Wrote sums (count - 1) r count lent left → Composed rq age lent (record { answer = a; entries = k }) left
  unfolding high_after low_after points_after entries_after
  accepted-result age lent a k e zero_is all is left w = record {
    answered = e;
    counted = is ∙ rw (eq-eqb (answer rq age (rooms_of lent)).number 0 (rw e at zero_is));
    high_is = w.high_is ∙ written lent.high (λ R. ap high_word (n.each R));
    low_is = w.low_is ∙ written lent.low (λ R. ap low_word (n.each R));
    points_is = w.points_is ∙ written lent.points rounds;
  }
    where
      written : {A : Type 0} {f g : ℕ → A} (l : List A) → ((R : ℕ) → f R ≡ g R) → afterwards count f l ≡ afterwards (answer rq age (rooms_of lent)).count g l
      written {A} {f} {g} l each =
          afterwards-same count f g l (λ R m. each R) ∙ ap (λ i. afterwards i g l) (sym (ap (λ (b : Answer). b.count) (sym e) ∙ all))
