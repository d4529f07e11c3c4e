-- The card's verdict by its tests: PARAMETER from the first and the last path number, and what an accepted part is answered.
-- Assumes nothing.
use mathlib.Core.Path.{◌≡◌, refl, sym, ap, ◌∙◌, subst}
use mathlib.Core.Bool.{Bool, true, false, true≢false, cond}
use mathlib.Core.List.{List, ◌∷◌, map}
use Prim.Native.Nat.{ℕ, zero, suc, ◌+◌, ◌*◌, ◌≤◌, ◌<◌}
use native.Mathlib.Decide.{dec_lt}
use native.Mathlib.Omega.{arith}
use lib.Dec.{ltb}
use lib.IntN.{ℤ, pos}
use borrow.Author.Tests.{lt-ltb, le-ltb}
use Rattle.request.specs.units.Bounds.{beyond_path}
use Rattle.request.specs.declared.Answer.{Answer}
use Rattle.request.specs.Head.{by_form, degree, longest, numbers}
use Rattle.request.specs.Request.{Request}
use Rattle.request.specs.Refusal.{least, not_parameter, parameter_place, accepted}
use Rattle.net.specs.Net.{net_of, place_of, number_at, path_number}
use Rattle.net.specs.Blossom.{Argument, blossom}
use Rattle.net.specs.Composed.{arguments}
use Rattle.floats.specs.Float.{float, bits}
use Rattle.floats.specs.Path.{path_of}
use Rattle.part.specs.declared.Part.{Part}
use Rattle.part.specs.declared.Part.TheVariants.{Stay, Line}
use Rattle.part.specs.declared.Card.{Card}
use Rattle.part.specs.Part.{named, first_of, last_of, path_degree, head_of, request_of}
use Rattle.part.specs.Choice.{choice_of}
use Rattle.part.specs.Contract.{divided, bits_at, Shows}
use Rattle.card.specs.Steps.{Answered, curve, between, value_at}
use Rattle.part.proofs.Divided.{divided-blossom}
use Rattle.part.proofs.Five.{five-same}

-- a card shows what the verdict comes to
pub shown : {rq : Request} {a b : Answer} {card : Card} → a ≡ b → Shows rq b card → Shows rq a card
shown {rq} {card = card} e s = subst (λ x. Shows rq x card) (sym e) s

-- at most five numerators
pub count_most : (m : ℕ) (part : Part) → degree (head_of m part) ≤ 4 → (m ≤ 4) × (longest (head_of m part) + 1 ≤ 5)
unfolding longest degree by_form head_of path_degree
count_most m (Stay u) h = (h, omega arith)
count_most m (Line u v) h = (h, omega arith)

-- where PARAMETER is given, and its place
pub record Parameter (m : ℕ) (surface : List ℤ) (part : Part) (place : ℕ) : Type 0 where
  pub holds : not_parameter (request_of m surface part) ≡ true
  pub at : parameter_place (request_of m surface part).path ≡ place

module _ (m : ℕ) (surface : List ℤ) where
  pub first-beyond : (part : Part) → beyond_path (pos (path_of (first_of part))) ≡ true → Parameter m surface part 0
  unfolding not_parameter parameter_place least request_of named first_of
  first-beyond (Stay u) e = record { holds = rw e; at = rw e }
  first-beyond (Line u v) e = record { holds = rw e; at = rw e }

  pub last-beyond : (part : Part) → beyond_path (pos (path_of (first_of part))) ≡ false → beyond_path (pos (path_of (last_of part))) ≡ true
      → Parameter m surface part 1
  unfolding not_parameter parameter_place least request_of named first_of last_of
  last-beyond (Stay u) e f = absurd (true≢false (sym f ∙ e))
  last-beyond (Line u v) e f = record { holds = rw (e, f); at = rw (e, f) }

  pub none-beyond : (part : Part) → beyond_path (pos (path_of (first_of part))) ≡ false → beyond_path (pos (path_of (last_of part))) ≡ false
      → not_parameter (request_of m surface part) ≡ false
  unfolding not_parameter parameter_place least request_of named first_of last_of
  none-beyond (Stay u) e f = rw e
  none-beyond (Line u v) e f = rw (e, f)

  -- a quotient is the value that the card takes: the same arguments
  same_points : (A B : ℕ → Argument) (l R : ℕ) → A 0 ≡ B 0 → A 1 ≡ B 1 → map A (choice_of l R) ≡ map B (choice_of l R)
  unfolding choice_of
  same_points A B zero R e f = refl
  same_points A B (suc l) R e f = λ i. go (ltb R (suc l)) i ∷ same_points A B l R e f i
    where
      go : (c : Bool) → A (cond c 0 1) ≡ B (cond c 0 1)
      go true = e
      go false = f

  first-points : (A B : ℕ → Argument) (l : ℕ) → A 0 ≡ B 0 → map A (choice_of l 0) ≡ map B (choice_of l 0)
  unfolding choice_of
  first-points A B zero e = refl
  first-points A B (suc l) e = rw (lt-ltb 0 (suc l) (omega arith)) (λ i. e i ∷ first-points A B l e i)

  its-value : (part : Part) (R : ℕ) → R ≤ longest (head_of m part)
      → blossom (arguments (request_of m surface part) (choice_of m R)) (net_of (request_of m surface part))
      ≡ value_at m R (pos (path_of (first_of part))) (pos (path_of (last_of part))) (curve surface)
  unfolding request_of head_of named path_degree longest degree by_form arguments net_of place_of curve value_at between first_of last_of path_number number_at numbers
  its-value (Stay u) R h =
      let zero_is : R ≡ 0 = none R h in
      rw zero_is (ap (λ l. blossom l (curve surface)) (first-points _ (between (pos (path_of u)) (pos (path_of u))) m refl))
    where
      none : (R : ℕ) → R ≤ m * 0 → R ≡ 0
      none R h = omega arith
  its-value (Line u v) R h = ap (λ l. blossom l (curve surface)) (same_points _ (between (pos (path_of u)) (pos (path_of v))) m R refl refl)

  divided-is : (part : Part) (R : ℕ) → R ≤ longest (head_of m part)
      → divided (request_of m surface part) R ≡ value_at m R (pos (path_of (first_of part))) (pos (path_of (last_of part))) (curve surface)
  divided-is part R h = divided-blossom m surface part R h ∙ its-value part R h

  -- the record of an accepted part: each numerator is the quotient
  pub accepted-shows : (part : Part) {card : Card} {count : ℕ} → count ≡ longest (head_of m part) + 1
      → Answered m surface count (pos (path_of (first_of part))) (pos (path_of (last_of part))) card
      → Shows (request_of m surface part) (accepted (head_of m part)) card
  unfolding accepted bits_at
  accepted-shows part {card} {count} e told = record {
    number_is = told.number_is;
    place_is = told.place_is;
    count_is = told.count_is ∙ e;
    bits_are = told.bits_are ∙ rw e (five-same _ _ (λ R l. go R (dec_lt R (longest (head_of m part) + 1))));
  }
    where
      v : ℕ → ℤ
      v R = value_at m R (pos (path_of (first_of part))) (pos (path_of (last_of part))) (curve surface)

      go : (R : ℕ) → Dec (R < longest (head_of m part) + 1)
          → cond (ltb R (longest (head_of m part) + 1)) (bits (float (v R))) 0 ≡ bits_at (request_of m surface part) (longest (head_of m part) + 1) R
      go R (yes less) = rw (lt-ltb R (longest (head_of m part) + 1) less) (ap (λ z. bits (float z)) (sym (divided-is part R (omega arith))))
      go R (no not-less) = rw (le-ltb R (longest (head_of m part) + 1) (omega arith))
