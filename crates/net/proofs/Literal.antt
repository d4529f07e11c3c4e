-- The literal sum, one chosen number at a time, whatever is read of a choice: 01's numerator (rule Composed net) is such a sum.
-- Over this law stand the code's walk and the bound of a numerator. Assumes nothing.
use mathlib.Core.Path.{◌≡◌, sym, ◌∙◌}
use mathlib.Core.Bool.{cond}
use mathlib.Core.List.{List, [], ◌∷◌}
use Prim.Native.Nat.{ℕ, suc, ◌+◌}
use native.Mathlib.Nat.{add-zero, zero-add, add_assoc}
use lib.IntN.{ℤ, pos}
use lib.Dec.{eqb}
use Rattle.whole.specs.Sum.{sum_to}
use Rattle.whole.specs.Choose.{choose}
use Rattle.whole.proofs.Ring.{◌⊗◌, one-⊗, pos-mul, ⊗-assoc}
use Rattle.request.specs.Head.{degree}
use Rattle.request.specs.Request.{Request}
use Rattle.net.specs.Net.{net_of}
use Rattle.net.specs.Blossom.{blossom}
use Rattle.net.specs.Composed.{total, weight, arguments, numerator}
use Rattle.net.proofs.Evaluation.{all, all-linear}
use Rattle.net.proofs.Powers.{sum_to-linear, choices-all, scale-cond}

-- what one choice adds at R, where the numbers chosen before add up to s
unfoldable pub added : ℕ → ℕ → ℕ → (List ℕ → ℤ) → List ℕ → ℤ
added N s R f choice = cond (eqb (s + total choice) R) (pos (weight N choice) ⊗ f choice) (pos 0)

-- over all choices of r more
unfoldable pub sum_at : ℕ → ℕ → ℕ → ℕ → (List ℕ → ℤ) → ℤ
sum_at N r s R f = all (sum_to N) r (added N s R f)

pub sum-none : (N s R : ℕ) (f : List ℕ → ℤ) → sum_at N 0 s R f ≡ cond (eqb s R) (f []) (pos 0)
unfolding sum_at added all total weight
sum-none N s R f = rw (add-zero s, one-⊗)

-- the first number of a choice, taken out
first : (N s R : ℕ) (f : List ℕ → ℤ) (c : ℕ) (rest : List ℕ) → added N s R f (c ∷ rest) ≡ pos (choose N c) ⊗ added N (s + c) R (λ rest. f (c ∷ rest)) rest
unfolding added total weight
first N s R f c rest =
    sym
    (scale-cond (pos (choose N c)) _ (eqb (s + c + total rest) R)
    ∙ rw (add_assoc s c (total rest), pos-mul (choose N c) (weight N rest), ⊗-assoc))

pub sum_more : (N r s R : ℕ) (f : List ℕ → ℤ)
    → sum_at N (suc r) s R f ≡ sum_to N (λ c. pos (choose N c) ⊗ sum_at N r (s + c) R (λ rest. f (c ∷ rest)))
unfolding sum_at all
sum_more N r s R f =
    λ t. sum_to N (λ c.
    ((λ i. all (sum_to N) r (λ rest. first N s R f c rest i))
    ∙ (all-linear (sum_to N) (sum_to-linear N) r).scale (pos (choose N c)) (added N (s + c) R (λ rest. f (c ∷ rest)))) t)

pub numerator-is : (rq : Request) (R : ℕ) → numerator rq R ≡ sum_at rq.head.N (degree rq.head) 0 R (λ choice. blossom (arguments rq choice) (net_of rq))
unfolding numerator sum_at added ◌⊗◌
numerator-is rq R = choices-all (degree rq.head) rq.head.N _ ∙ (λ i. all (sum_to rq.head.N) (degree rq.head) (λ choice. again choice i))
  where
    again : (choice : List ℕ) → cond (eqb (total choice) R) (pos (weight rq.head.N choice) ⊗ blossom (arguments rq choice) (net_of rq)) (pos 0)
        ≡ cond (eqb (0 + total choice) R) (pos (weight rq.head.N choice) ⊗ blossom (arguments rq choice) (net_of rq)) (pos 0)
    again choice = rw (zero-add (total choice))
