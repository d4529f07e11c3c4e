-- A walk depends on the net only as far as its arguments reach: over a triangle, whatever they are. Assumes nothing.
use mathlib.Core.Path.{◌≡◌, sym, ◌∙◌, ap₂}
use mathlib.Core.List.{List, [], ◌∷◌}
use Prim.Native.Nat.{ℕ, zero, suc, ◌+◌, ◌≤◌}
use native.Mathlib.Omega.{arith}
use lib.IntN.{pos}
use Rattle.whole.specs.Choose.{choose}
use Rattle.whole.proofs.Ring.{◌⊕◌, ◌⊗◌}
use Rattle.net.specs.Net.{Net}
use Rattle.net.specs.Blossom.{Argument, along_u, along_v, within, step}
use Rattle.net.proofs.Every.{Every, none, more}
use Rattle.net.specs.runs.Terms.{Term, Reading}
use Rattle.net.specs.runs.Walk.{walk}
use Rattle.net.specs.runs.Ride.{leaf}
use Rattle.net.proofs.runs.Walk.{walk-zero, walk_none, walk-cons}

-- a term's step leaves nets that agree as far as so many arguments reach agreeing as far as one fewer do
abbrev pub Keeps : (ℕ → Net → Net → Type 0) → Term → Type 0
Keeps agree t = (left : ℕ) (p q : Net) → agree (suc left) p q → agree left (step t.argument p) (step t.argument q)

pub walk-reach : (agree : ℕ → Net → Net → Type 0) (F : Reading) → ((s : ℕ) (p q : Net) → agree 0 p q → F s p ≡ F s q)
    → (T : List Term) → Every (Keeps agree) T → (left begun s : ℕ) (p q : Net) → agree left p q → walk T left begun F s p ≡ walk T left begun F s q
walk-reach agree F last T e zero begun s p q h = walk-zero T begun F s p ∙ last s p q h ∙ sym (walk-zero T begun F s q)
walk-reach agree F last [] e (suc left) begun s p q h = walk_none left begun F s p ∙ sym (walk_none left begun F s q)
walk-reach agree F last (t ∷ T) (more keeps e) (suc left) begun s p q h =
    walk-cons t T left begun F s p
    ∙ ap₂ (λ x y. pos t.weight ⊗ x ⊕ pos (choose begun (suc left)) ⊗ y)
    (walk-reach agree F last (t ∷ T) (more keeps e) left begun (s + t.key) _ _ (keeps left p q h))
    (walk-reach agree F last T e (suc left) (suc left) s p q h)
    ∙ sym (walk-cons t T left begun F s q)

pub leaf-same : (R s : ℕ) (p q : Net) → p 0 0 ≡ q 0 0 → leaf R s p ≡ leaf R s q
unfolding leaf
leaf-same R s p q e = rw e

-- ---- a triangle
abbrev pub Agree : ℕ → Net → Net → Type 0
Agree k p q = (i j : ℕ) → i + j ≤ k → p i j ≡ q i j

-- what is read for each place reads no further than k
pub record Reads (F : ℕ → Reading) (k : ℕ) : Type 0 where
  pub reads : (R s : ℕ) (p q : Net) → Agree k p q → F R s p ≡ F R s q

step-agree : (a : Argument) (k : ℕ) (p q : Net) → Agree (suc k) p q → Agree k (step a p) (step a q)
unfolding step
step-agree (along_u u) k p q e i j h = rw (e i j (omega arith), e (suc i) j (omega arith))
step-agree (along_v v) k p q e i j h = rw (e i j (omega arith), e i (suc j) (omega arith))
step-agree (within x y z) k p q e i j h = rw (e i j (omega arith), e i (suc j) (omega arith), e (suc i) j (omega arith))

pub walk-reads : (F : ℕ → Reading) (k : ℕ) → Reads F k → (T : List Term) (left begun R s : ℕ) (p q : Net) → Agree (left + k) p q
    → walk T left begun (F R) s p ≡ walk T left begun (F R) s q
walk-reads F k r T left begun R s p q e =
    walk-reach (λ left p q. Agree (left + k) p q) (F R) (λ s p q h. r.reads R s p q (λ i j m. h i j (omega arith))) T (all T) left begun s p q e
  where
    all : (T : List Term) → Every (Keeps (λ left p q. Agree (left + k) p q)) T
    all [] = none
    all (t ∷ T) = more (λ left p q h. step-agree t.argument (left + k) p q (λ i j m. h i j (omega arith))) (all T)

pub leaf-reads : Reads leaf 0
leaf-reads = record { reads = λ R s p q e. leaf-same R s p q (e 0 0 (omega arith)) }
