-- Sums over the indices i + j + k = d: linear, only such indices count, and one of them alone can be picked. Assumes nothing.
use mathlib.Core.Path.{◌≡◌, refl, ◌∙◌}
use mathlib.Core.Bool.{Bool, true, false, cond, ◌&&◌}
use Prim.Native.Nat.{ℕ, ◌+◌}
use native.Mathlib.Omega.{arith}
use lib.Dec.{eqb}
use lib.IntN.{ℤ, pos}
use Rattle.whole.specs.Sum.{sum_over}
use Rattle.whole.proofs.Sums.{sum-cong, sum-cong-on, sum-add, sum-scale, sum-none}
use Rattle.whole.proofs.Bound.{◌⊑◌}
use Rattle.net.proofs.Evaluation.{Linear, through}
use Rattle.net.proofs.Powers.{sum-pick}
use Rattle.net.proofs.Rounded.{⊑-sum-on}
use Rattle.patch_net.specs.Patch.{Index, index}
use Rattle.patch_net.specs.Composed.{over_indices}

abbrev pub degree : Index → ℕ
degree a = a.i + (a.j + a.k)

pub indices-linear : (d : ℕ) → Linear (over_indices d)
unfolding over_indices
indices-linear d = record {
  add = λ f g. sum-cong d _ _ (λ i rest. sum-add rest (λ j k. f (index i j k)) (λ j k. g (index i j k))) ∙ sum-add d _ _;
  scale = λ c f. sum-cong d _ _ (λ i rest. sum-scale rest c (λ j k. f (index i j k))) ∙ sum-scale d c _;
}

pub indices-on : (d : ℕ) (F G : Index → ℤ) → ((a : Index) → degree a ≡ d → F a ≡ G a) → over_indices d F ≡ over_indices d G
unfolding over_indices
indices-on d F G e = sum-cong-on d _ _ (λ i rest h. sum-cong-on rest _ _ (λ j k m. e (index i j k) (omega arith)))

pub indices-⊑ : (d : ℕ) {F G : Index → ℤ} → ((a : Index) → degree a ≡ d → F a ⊑ G a) → over_indices d F ⊑ over_indices d G
unfolding over_indices
indices-⊑ d e = ⊑-sum-on d (λ i rest h. ⊑-sum-on rest (λ j k m. e (index i j k) (omega arith)))

-- they may be exchanged with any linear sum
pub indices-through : {A : Type 0} (sum : (A → ℤ) → ℤ) → Linear sum → (d : ℕ) (H : Index → A → ℤ)
    → over_indices d (λ b. sum (H b)) ≡ sum (λ a. over_indices d (λ b. H b a))
unfolding over_indices
indices-through sum linear d H =
    sum-cong d _ _ (λ i rest. through sum linear rest (λ j k. H (index i j k)))
    ∙ through sum linear d (λ i rest a. sum_over rest (λ j k. H (index i j k) a))

-- of all indices one alone is t
pub index-pick : (d : ℕ) (t : Index) (M : Index → ℤ) → degree t ≡ d
    → over_indices d (λ b. cond (eqb t.i b.i && eqb t.j b.j) (M b) (pos 0)) ≡ M t
unfolding over_indices
index-pick d t M whole =
    sum-cong d _ _ (λ i rest. pull (eqb t.i i) rest (λ j. eqb t.j j) (λ j k. M (index i j k)))
    ∙ sum-pick d t.i (t.j + t.k) (λ i rest. sum_over rest (λ j k. cond (eqb t.j j) (M (index i j k)) (pos 0))) whole
    ∙ sum-pick (t.j + t.k) t.j t.k (λ j k. M (index t.i j k)) refl
  where
    pull : (b : Bool) (n : ℕ) (c : ℕ → Bool) (H : ℕ → ℕ → ℤ)
        → sum_over n (λ j k. cond (b && c j) (H j k) (pos 0)) ≡ cond b (sum_over n (λ j k. cond (c j) (H j k) (pos 0))) (pos 0)
    pull true n c H = refl
    pull false n c H = sum-none n
