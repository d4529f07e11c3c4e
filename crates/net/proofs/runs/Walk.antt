-- The code's walk is the sum over runs, and so the sum over all choices; and what one turn of its loop does. Assumes nothing.
use mathlib.Core.Path.{◌≡◌, refl, sym, ◌∙◌, ap, ap₂}
use mathlib.Core.List.{List, [], ◌∷◌}
use Prim.Native.Nat.{ℕ, zero, suc, ◌+◌, ◌*◌}
use native.Mathlib.Omega.{arith}
use lib.IntN.{ℤ, pos, pow}
use Rattle.whole.specs.Sum.{sum_over}
use Rattle.whole.specs.Choose.{choose}
use Rattle.whole.proofs.Ring.{◌⊕◌, ◌⊗◌, ⊕-comm, ⊗-assoc, ⊗-left-comm, one-⊗, pow-zero, pow-suc}
use Rattle.whole.proofs.Sums.{sum-zero, sum-suc, sum-cong, sum-cong-on, sum-scale}
use Rattle.whole.proofs.Binomial.{choose-zero, choose-sym, weighed}
use Rattle.net.specs.Net.{Net}
use Rattle.net.specs.Blossom.{step}
use Rattle.net.specs.runs.Terms.{Term, Reading, chosen, repeated, runs}
use Rattle.net.specs.runs.Walk.{walk}
use Rattle.net.proofs.runs.Runs.{chosen-runs, runs-cons}

pub walk-zero : (T : List Term) (begun : ℕ) (F : Reading) (s : ℕ) (p : Net) → walk T 0 begun F s p ≡ F s p
unfolding walk
walk-zero T begun F s p = refl

pub walk_none : (left begun : ℕ) (F : Reading) (s : ℕ) (p : Net) → walk [] (suc left) begun F s p ≡ pos 0
unfolding walk
walk_none left begun F s p = refl

pub walk-cons : (t : Term) (T : List Term) (left begun : ℕ) (F : Reading) (s : ℕ) (p : Net)
    → walk (t ∷ T) (suc left) begun F s p
    ≡ pos t.weight ⊗ walk (t ∷ T) left begun F (s + t.key) (step t.argument p) ⊕ pos (choose begun (suc left)) ⊗ walk T (suc left) (suc left) F s p
unfolding walk ◌⊕◌ ◌⊗◌
walk-cons t T left begun F s p = refl

-- e of the first term, and k arguments left for the later ones
module _ (t : Term) (T : List Term) (F : Reading) (begun : ℕ) where
  unfoldable pub after : ℕ → Net → ℕ → ℕ → ℤ
  after s p e k = pos (choose begun k) ⊗ (pow (pos t.weight) e ⊗ runs T k F (s + e * t.key) (repeated e t.argument p))

  after_none : (s : ℕ) (p : Net) (k : ℕ) → after s p 0 k ≡ pos (choose begun k) ⊗ runs T k F s p
  unfolding after repeated
  after_none s p k =
      let q : s + 0 * t.key ≡ s = omega arith in
      rw (q, pow-zero (pos t.weight), one-⊗)

  after-again : (s : ℕ) (p : Net) (e k : ℕ) → pos t.weight ⊗ after (s + t.key) (step t.argument p) e k ≡ after s p (suc e) k
  unfolding after repeated
  after-again s p e k =
      let q : s + t.key + e * t.key ≡ s + suc e * t.key = omega arith in
      rw (q, pow-suc (pos t.weight) e) (⊗-left-comm _ _ _ ∙ ap (λ x. pos (choose begun k) ⊗ x) (sym (⊗-assoc _ _ _)))

  -- what is left to walk, wherever in its run the first term is
  pub walk-on : ((k s : ℕ) (p : Net) → walk T k k F s p ≡ runs T k F s p) → (left s : ℕ) (p : Net) → walk (t ∷ T) left begun F s p ≡ sum_over left (after s p)
  walk-on later zero s p = walk-zero (t ∷ T) begun F s p ∙ sym (walk-zero T 0 F s p) ∙ start ∙ sym (sum-zero (after s p))
    where
      start : walk T 0 0 F s p ≡ after s p 0 0
      start = later 0 s p ∙ sym (after_none s p 0 ∙ rw (choose-zero begun, one-⊗))
  walk-on later (suc left) s p =
      walk-cons t T left begun F s p ∙ ⊕-comm _ _
      ∙ ap₂ ◌⊕◌
      (ap (λ x. pos (choose begun (suc left)) ⊗ x) (later (suc left) s p) ∙ sym (after_none s p (suc left)))
      (ap (λ x. pos t.weight ⊗ x) (walk-on later left (s + t.key) (step t.argument p)) ∙ sym (sum-scale left (pos t.weight) _) ∙ sum-cong
      left _ _ (after-again s p))
      ∙ sym (sum-suc left (after s p))

pub walk-runs : (T : List Term) (r : ℕ) (F : Reading) (s : ℕ) (p : Net) → walk T r r F s p ≡ runs T r F s p
unfolding runs walk weighed after
walk-runs [] zero F s p = refl
walk-runs [] (suc r) F s p = refl
walk-runs (t ∷ T) r F s p =
    walk-on t T F r (λ k s p. walk-runs T k F s p) r s p
    ∙ sum-cong-on r _ _ (λ e k h. ap (λ c. pos c ⊗ (pow (pos t.weight) e ⊗ runs T k F (s + e * t.key) (repeated e t.argument p)))
    (sym (choose-sym r e k h)))
    ∙ sym (runs-cons t T r F s p)

-- from the start of a group the walk is the sum over all choices
pub walk-chosen : (T : List Term) (r : ℕ) (F : Reading) (s : ℕ) (p : Net) → walk T r r F s p ≡ chosen T r F s p
walk-chosen T r F s p = walk-runs T r F s p ∙ sym (chosen-runs T r F s p)
