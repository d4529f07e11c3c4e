-- The weights of all choices add up to the power of the sum of the weights; those of a ride's terms to 2^N. Assumes nothing.
use mathlib.Core.Path.{◌≡◌, refl, sym, ◌∙◌, ap, ap₂}
use mathlib.Core.List.{List, [], ◌∷◌}
use Prim.Native.Nat.{ℕ, zero, suc, ◌+◌, ◌*◌, ◌^◌, ◌<◌}
use native.Mathlib.Omega.{arith}
use lib.IntN.{ℤ, pos, nat_abs, pow}
use lib.ListN.{length, drop}
use lib.Seq.{drop-cons}
use Rattle.whole.specs.Sum.{sum_to}
use Rattle.whole.specs.Choose.{choose}
use Rattle.whole.proofs.Ring.{◌⊕◌, ◌⊗◌, ⊗-comm, ⊗-assoc, one-⊗, ⊗-one, pos-add, pos-mul, pow-zero, pow-suc, pow_pos}
use Rattle.whole.proofs.Sums.{sum_to-is, sum-cong}
use Rattle.whole.proofs.Binomial.{weighed, binomial}
use Rattle.net.specs.Net.{Net}
use Rattle.net.specs.Blossom.{Argument, step}
use Rattle.net.specs.runs.Terms.{Term, no_term, term_at, over, chosen}
use Rattle.net.specs.runs.Walk.{walk}
use Rattle.net.specs.runs.Ride.{path_term, path_terms}
use Rattle.net.specs.runs.Budget.{weights, budget}
use Rattle.net.proofs.runs.Runs.{over-cons, over-scale, over-cong, chosen-zero, chosen-suc}
use Rattle.net.proofs.runs.Walk.{walk-chosen}
use Rattle.net.proofs.runs.Ride.{over_below}

-- ---- over all choices, whatever is read of all alike
pub chosen-weights : (T : List Term) (r : ℕ) (x : ℤ) (s : ℕ) (p : Net) → chosen T r (λ s p. x) s p ≡ pow (over T (λ t. pos t.weight)) r ⊗ x
chosen-weights T zero x s p = chosen-zero T (λ s p. x) s p ∙ rw (pow-zero (over T (λ t. pos t.weight)), one-⊗)
chosen-weights T (suc r) x s p =
    chosen-suc T r (λ s p. x) s p
    ∙ over-cong T _ _ (λ t. ap (λ y. pos t.weight ⊗ y) (chosen-weights T r x (s + t.key) (step t.argument p)) ∙ ⊗-comm _ _)
    ∙ over-scale T _ (λ t. pos t.weight)
    ∙ ⊗-comm _ _ ∙ sym (⊗-assoc _ _ _) ∙ ap (λ y. y ⊗ x) (sym (pow-suc _ r))

weights-pos : (T : List Term) → over T (λ t. pos t.weight) ≡ pos (weights T)
unfolding over weights
weights-pos [] = refl
weights-pos (t ∷ T) = over-cons t T (λ t. pos t.weight) ∙ ap (λ x. pos t.weight ⊕ x) (weights-pos T) ∙ sym (pos-add t.weight (weights T))

-- ---- the budget is the walk of what is read of all alike
budget-walk : (T : List Term) (left begun rest s : ℕ) (p : Net) → pos (budget T left begun rest) ≡ walk T left begun (λ s p. pos rest) s p
unfolding budget walk ◌⊕◌ ◌⊗◌
budget-walk T zero begun rest s p = refl
budget-walk [] (suc left) begun rest s p = refl
budget-walk (t ∷ T) (suc left) begun rest s p = ap₂ ◌⊕◌ (ap (λ x. pos t.weight ⊗ x)
    (budget-walk (t ∷ T) left begun rest (s + t.key) (step t.argument p))) (ap (λ x. pos (choose begun (suc left)) ⊗ x)
    (budget-walk T (suc left) (suc left) rest s p))

pub budget-is : (T : List Term) (r rest : ℕ) → budget T r r rest ≡ weights T ^ r * rest
budget-is T r rest =
    ap nat_abs
    (budget-walk T r r rest 0 (λ i j. pos 0) ∙ walk-chosen T r (λ s p. pos rest) 0 (λ i j. pos 0)
    ∙ chosen-weights T r (pos rest) 0 (λ i j. pos 0)
    ∙ ap (λ x. pow x r ⊗ pos rest) (weights-pos T) ∙ ap (λ x. x ⊗ pos rest) (pow_pos (weights T) r) ∙ sym (pos-mul (weights T ^ r) rest))

pub budget-zero : (T : List Term) (begun rest : ℕ) → budget T 0 begun rest ≡ rest
unfolding budget
budget-zero T begun rest = refl

pub budget-cons : (t : Term) (T : List Term) (left begun rest : ℕ)
    → budget (t ∷ T) (suc left) begun rest ≡ t.weight * budget (t ∷ T) left begun rest + choose begun (suc left) * budget T (suc left) (suc left) rest
unfolding budget
budget-cons t T left begun rest = refl

-- one turn of the loop spends what its term takes on
pub budget-turn : (T : List Term) (left rest c begun weight : ℕ) → c < length T
    → weight * budget (drop c T) (suc left) begun rest
    ≡ weight * (term_at T c).weight * budget (drop c T) left begun rest + weight * choose begun (suc left) * budget (drop (suc c) T) (suc left) (suc left) rest
budget-turn T left rest c begun weight h = rw (drop-cons T c no_term h, budget-cons (term_at T c) (drop (suc c) T) left begun rest) (omega arith)

-- ---- a ride's weights
one-pow : (n : ℕ) → pow (pos 1) n ≡ pos 1
one-pow zero = pow-zero (pos 1)
one-pow (suc n) = pow-suc (pos 1) n ∙ one-⊗ _ ∙ one-pow n

row : (N : ℕ) → sum_to N (λ c. pos (choose N c)) ≡ pos (2 ^ N)
unfolding weighed
row N =
    sum_to-is N (λ c. pos (choose N c))
    ∙ sum-cong N _ _ (λ i k. sym (ones N i k))
    ∙ binomial N (pos 1) (pos 1)
    ∙ ap (λ x. pow x N) (sym (pos-add 1 1)) ∙ pow_pos 2 N
  where
    ones : (N i k : ℕ) → pos (choose N i) ⊗ (pow (pos 1) i ⊗ pow (pos 1) k) ≡ pos (choose N i)
    ones N i k = rw (one-pow i, one-pow k, one-⊗, ⊗-one)

pub path-weights : (N : ℕ) (read : ℕ → Argument) → weights (path_terms N read) ≡ 2 ^ N
unfolding path_terms path_term
path-weights N read = ap nat_abs (sym (weights-pos (path_terms N read)) ∙ over_below N (path_term N read) (λ t. pos t.weight) ∙ row N)
