-- One turn of the loop over the terms: what is left to add before it is what it adds and what is left after it, with the run
-- closed. Assumes nothing.
use mathlib.Core.Path.{◌≡◌, sym, ◌∙◌, ap, ap₂}
use mathlib.Core.List.{List}
use Prim.Native.Nat.{ℕ, suc, ◌+◌, ◌*◌, ◌≤◌, ◌<◌}
use lib.IntN.{ℤ, pos}
use lib.ListN.{length, drop, drop_of_length-le}
use lib.Seq.{drop-cons}
use Rattle.whole.specs.Choose.{choose}
use Rattle.whole.proofs.Ring.{◌⊕◌, ◌⊗◌, ⊗-assoc, ⊗-⊕, pos-mul}
use Rattle.net.specs.Net.{Net}
use Rattle.net.specs.Blossom.{step}
use Rattle.net.specs.runs.Terms.{Term, no_term, term_at, Reading}
use Rattle.net.specs.runs.Walk.{walk}
use Rattle.net.proofs.runs.Walk.{walk_none, walk-cons}

module _ (T : List Term) (left : ℕ) (F : Reading) (s : ℕ) (p : Net) where
  -- what term c takes on, from here
  abbrev taking : ℕ → ℕ → ℤ
  taking c begun = walk (drop c T) left begun F (s + (term_at T c).key) (step (term_at T c).argument p)

  walk_turn : (c begun : ℕ) → c < length T
      → walk (drop c T) (suc left) begun F s p
      ≡ pos (term_at T c).weight ⊗ taking c begun ⊕ pos (choose begun (suc left)) ⊗ walk (drop (suc c) T) (suc left) (suc left) F s p
  walk_turn c begun h = rw (drop-cons T c no_term h) (walk-cons (term_at T c) (drop (suc c) T) left begun F s p)

  pub walk_end : (c begun : ℕ) → length T ≤ c → walk (drop c T) (suc left) begun F s p ≡ pos 0
  walk_end c begun h = rw (drop_of_length-le T h) (walk_none left begun F s p)

  -- the same with the weight that the code carries
  pub weighed-turn : (c begun weight : ℕ) → c < length T
      → pos weight ⊗ walk (drop c T) (suc left) begun F s p
      ≡ pos (weight * (term_at T c).weight) ⊗ taking c begun ⊕ pos (weight * choose begun (suc left)) ⊗ walk (drop (suc c) T) (suc left) (suc left) F s p
  weighed-turn c begun weight h =
      ap (λ x. pos weight ⊗ x) (walk_turn c begun h) ∙ ⊗-⊕ _ _ _
      ∙ ap₂ ◌⊕◌ (sym (⊗-assoc _ _ _) ∙ ap (λ w. w ⊗ taking c begun) (sym (pos-mul weight (term_at T c).weight)))
      (sym (⊗-assoc _ _ _) ∙ ap (λ w. w ⊗ walk (drop (suc c) T) (suc left) (suc left) F s p) (sym (pos-mul weight (choose begun (suc left)))))
