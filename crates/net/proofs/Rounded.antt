-- What is drawn with points that are each within half a unit of an exact point is within half a unit of what is drawn with the exact
-- points: Bernstein's factors are not negative, and add up to q^L. Said once for every way of summing, of a curve at k/q and of a patch.
-- Of the rounding only this half is used, so that it may break ties as it will. Assumes nothing.
use mathlib.Core.Path.{◌≡◌, refl, sym, ◌∙◌, ap, subst, subst₂}
use Prim.Native.Nat.{ℕ, zero, suc, ◌+◌, ◌*◌, ◌-◌, ◌^◌, ◌≤◌, ◌<◌}
use native.Mathlib.Nat.{zero-add, suc-add}
use native.Mathlib.Omega.{arith}
use lib.IntN.{ℤ, pos, nat_abs, pow, ◌*ℤ◌, ◌-ℤ◌}
use Rattle.whole.specs.Sum.{sum_over}
use Rattle.whole.specs.Choose.{choose}
use Rattle.whole.proofs.Ring.{◌⊕◌, ◌⊖◌, ◌⊗◌, ring, mul-ac, is-sub, sub-⊕, ⊕-comm, ⊗-assoc, mul-sub, pos-add, pos-mul, pow_pos}
use Rattle.whole.proofs.Sums.{sum-zero, sum-suc, sum-cong, sum-add, sum-scale}
use Rattle.whole.proofs.Binomial.{choose-zero, choose-pascal, weighed, binomial}
use Rattle.whole.proofs.Bound.{◌⊑◌, ⊑-of, ⊑-le, ⊑-add, ⊑-mul, ⊑-pow, ⊑-refl-pos}
use Rattle.net.specs.Reading.{bernstein}
use Rattle.net.proofs.Evaluation.{Linear, under}
use Rattle.net.proofs.Bernstein.{bernstein-is}

pub choose-some : (i k : ℕ) → 0 < choose (i + k) i
choose-some zero k = rw choose-zero (omega arith)
choose-some (suc i) k = rw (suc-add, choose-pascal) (omega (arith, choose-some i k))

-- only the terms with i + k = n count
pub ⊑-sum-on : (n : ℕ) {H J : ℕ → ℕ → ℤ} → ((i k : ℕ) → i + k ≡ n → H i k ⊑ J i k) → sum_over n H ⊑ sum_over n J
⊑-sum-on zero {H} {J} h = rw (sum-zero H, sum-zero J) (h 0 0 refl)
⊑-sum-on (suc n) {H} {J} h = rw (sum-suc n H, sum-suc n J) (⊑-add (h 0 (suc n) (zero-add _)) (⊑-sum-on n (λ i k e. h (suc i) k (suc-add i k ∙ ap suc e))))

-- what k leaves of q is not negative, and the two are q
pub rest_of : (k q : ℕ) → k ≤ q → pos q ⊖ pos k ≡ pos (q - k)
rest_of k q h =
    let e : q - k + k ≡ q = omega arith in
    sym (is-sub (pos (q - k)) (pos k) (pos q) (sym (pos-add (q - k) k) ∙ ap pos e))

pub parts-of : (k q : ℕ) → pos k ⊕ (pos q ⊖ pos k) ≡ pos q
parts-of k q = ⊕-comm (pos k) (pos q ⊖ pos k) ∙ sub-⊕ (pos q) (pos k)

-- ---- any way of summing that is linear and keeps bounds, over the terms that are `on` it
pub record Bounding {A : Type 0} (on : A → Type 0) (sum : (A → ℤ) → ℤ) : Type 0 where
  pub linear : Linear sum
  pub under : {F G : A → ℤ} → ((a : A) → on a → F a ⊑ G a) → sum F ⊑ sum G

-- what is drawn with points P, of which a has the factor C a times w a, beside the sum of the numerators, each times w a: the scale M
-- and the sum of all factors bound twice their difference, where each point is within half a unit of its own
module _ {A : Type 0} {on : A → Type 0} (sum : (A → ℤ) → ℤ) (sums : Bounding on sum) (M : ℕ) (w : A → ℤ) (C : A → ℕ) where
  -- the difference of the two is the sum of the points' differences
  differences : (P num : A → ℤ)
      → sum (λ a. w a ⊗ (pos 2 ⊗ (pos (C a * M) ⊗ P a ⊖ num a)))
      ≡ pos 2 ⊗ (pos M ⊗ sum (λ a. pos (C a) ⊗ w a ⊗ P a) ⊖ sum (λ a. w a ⊗ num a))
  differences P num =
      let line = sums.linear in
      let off : A → ℤ = λ a. pos 2 ⊗ (pos (C a * M) ⊗ P a ⊖ num a) in
      let exact = sum (λ a. w a ⊗ num a) in
      let drawn = sum (λ a. pos (C a) ⊗ w a ⊗ P a) in
      is-sub _ (pos 2 ⊗ exact) (pos 2 ⊗ (pos M ⊗ drawn))
      (ap (λ x. sum (λ a. w a ⊗ off a) ⊕ x) (sym (line.scale (pos 2) (λ a. w a ⊗ num a))) ∙ sym (line.add _ _)
      ∙ under sum _ _ (λ a. rw (pos-mul (C a) M) (term (w a) (pos (C a)) (P a) (num a)))
      ∙ line.scale (pos 2) _ ∙ ap (λ x. pos 2 ⊗ x) (line.scale (pos M) _))
      ∙ sym (mul-sub (pos 2) (pos M ⊗ drawn) exact)
    where
      gather : (v d n : ℤ) → v ⊗ (pos 2 ⊗ d) ⊕ pos 2 ⊗ (v ⊗ n) ≡ pos 2 ⊗ (v ⊗ (d ⊕ n))
      gather v d n = simp ring

      term : (v c p n : ℤ) → v ⊗ (pos 2 ⊗ (c ⊗ pos M ⊗ p ⊖ n)) ⊕ pos 2 ⊗ (v ⊗ n) ≡ pos 2 ⊗ (pos M ⊗ (c ⊗ v ⊗ p))
      term v c p n = gather v (c ⊗ pos M ⊗ p ⊖ n) n ∙ rw (sub-⊕ (c ⊗ pos M ⊗ p) n) (simp mul-ac)

  factors : (q : ℕ) → sum (λ a. pos (C a) ⊗ w a) ≡ pos q → sum (λ a. w a ⊗ pos (C a * M)) ≡ pos (M * q)
  factors q e =
      under sum _ _ (λ a. rw (pos-mul (C a) M) (order (w a) (pos (C a)))) ∙ sums.linear.scale (pos M) _
      ∙ ap (λ x. pos M ⊗ x) e ∙ sym (pos-mul M q)
    where
      order : (v c : ℤ) → v ⊗ (c ⊗ pos M) ≡ pos M ⊗ (c ⊗ v)
      order v c = simp mul-ac

  pub near : (q : ℕ) (P num : A → ℤ) → sum (λ a. pos (C a) ⊗ w a) ≡ pos q → ((a : A) → on a → w a ⊑ w a)
      → ((a : A) → on a → nat_abs (pos 2 ⊗ (pos (C a * M) ⊗ P a ⊖ num a)) ≤ C a * M)
      → nat_abs (pos 2 ⊗ (pos M ⊗ sum (λ a. pos (C a) ⊗ w a ⊗ P a) ⊖ sum (λ a. w a ⊗ num a))) ≤ M * q
  near q P num e some each =
      ⊑-le (subst₂ ◌⊑◌ (differences P num) (factors q e) (sums.under (λ a o. ⊑-mul (some a o) (⊑-of (each a o)))))

-- ---- a curve: the sum over R + S = L
abbrev along : ℕ → (ℕ × ℕ → ℤ) → ℤ
along L F = sum_over L (λ R S. F (R, S))

along-sums : (L : ℕ) → Bounding (λ (a : ℕ × ℕ). a.0 + a.1 ≡ L) (along L)
along-sums L = record {
  linear = record { add = λ f g. sum-add L _ _; scale = λ c f. sum-scale L c _ };
  under = λ {F} {G} h. ⊑-sum-on L (λ R S e. h (R, S) e);
}

pub within_half : (L M k q : ℕ) (P num : ℕ → ℤ) → k ≤ q
    → ((R S : ℕ) → R + S ≡ L → nat_abs (pos 2 *ℤ (pos (choose L R * M) *ℤ P R -ℤ num R)) ≤ choose L R * M)
    → nat_abs (pos 2 *ℤ (pos M *ℤ bernstein L (pos k) (pos q -ℤ pos k) P -ℤ sum_over L (λ R S. pow (pos k) R ⊗ pow (pos q -ℤ pos k) S ⊗ num R))) ≤ M * q ^ L
unfolding ◌⊖◌ ◌⊗◌ weighed
within_half L M k q P num h each =
    rw (drawn-is) (near (along L) (along-sums L) M (λ a. A a.0 ⊗ B a.1) (λ a. choose L a.0) (q ^ L) (λ a. P a.0) (λ a. num a.0)
    (binomial L (pos k) (pos q ⊖ pos k) ∙ ap (λ x. pow x L) (parts-of k q) ∙ pow_pos q L)
    (λ a o. ⊑-mul (⊑-pow a.0 (⊑-refl-pos k)) (⊑-pow a.1 left))
    (λ a o. each a.0 a.1 o))
  where
    A : ℕ → ℤ
    A R = pow (pos k) R

    B : ℕ → ℤ
    B S = pow (pos q ⊖ pos k) S

    left : pos q ⊖ pos k ⊑ pos q ⊖ pos k
    left = subst (λ x. x ⊑ x) (sym (rest_of k q h)) (⊑-refl-pos (q - k))

    drawn-is : bernstein L (pos k) (pos q ⊖ pos k) P ≡ sum_over L (λ R S. pos (choose L R) ⊗ (A R ⊗ B S) ⊗ P R)
    drawn-is = bernstein-is L (pos k) (pos q ⊖ pos k) P ∙ sum-cong L _ _ (λ R S. ap (λ x. x ⊗ P R) (⊗-assoc (pos (choose L R)) (A R) (B S)))
