-- Steps with one and the same argument, read at (0, 0), are Bernstein's formula: along one index, along both in turn, and
-- over a triangle. Assumes nothing.
use mathlib.Core.Path.{◌≡◌, refl, sym, ◌∙◌, ap, ap₂}
use mathlib.Core.List.{List, [], ◌++◌, append-nil}
use Prim.Native.Nat.{ℕ, zero, suc, ◌≤◌}
use native.Mathlib.Omega.{arith}
use lib.IntN.{ℤ, pos, pow}
use lib.ListN.{replicate}
use Rattle.whole.specs.Sum.{sum_over}
use Rattle.whole.specs.Choose.{choose}
use Rattle.whole.proofs.Ring.{◌⊕◌, ◌⊗◌, ring, mul-ac, ⊕-assoc, one-⊗, ⊗-assoc, pow-zero, pow-suc}
use Rattle.whole.proofs.Sums.{sum-cong, sum-cong-on}
use Rattle.whole.proofs.Binomial.{weighed, weighed-zero, weighed-suc, weighed-cong, weighed-add, weighed-scale, binomial}
use Rattle.net.specs.Net.{Net}
use Rattle.net.specs.Reading.{bernstein, bernstein_triangle}
use Rattle.net.proofs.Steps.{Weights, mix, taken}
use Rattle.net.proofs.Evaluation.{Linear, under}

pub bernstein-is : (n : ℕ) (x z : ℤ) (b : ℕ → ℤ) → bernstein n x z b ≡ sum_over n (λ i j. pos (choose n i) ⊗ pow x i ⊗ pow z j ⊗ b i)
unfolding bernstein ◌⊗◌
bernstein-is n x z b = refl

pub bernstein-weighed : (n : ℕ) (x z : ℤ) (b : ℕ → ℤ) → bernstein n x z b ≡ weighed n (λ i j. pow x i ⊗ (pow z j ⊗ b i))
unfolding weighed
bernstein-weighed n x z b = bernstein-is n x z b ∙ sum-cong n _ _ (λ i j. four (pos (choose n i)) (pow x i) (pow z j) (b i))
  where
    four : (c x z b : ℤ) → c ⊗ x ⊗ z ⊗ b ≡ c ⊗ (x ⊗ (z ⊗ b))
    four c x z b = ⊗-assoc (c ⊗ x) z b ∙ ⊗-assoc c x (z ⊗ b)

pub triangle-weighed : (n : ℕ) (x y z : ℤ) (b : Net) → bernstein_triangle n x y z b ≡ weighed n (λ i s. pow x i ⊗ bernstein s y z (b i))
unfolding bernstein_triangle weighed ◌⊗◌
triangle-weighed n x y z b = sum-cong n _ _ (λ i s. ⊗-assoc (pos (choose n i)) (pow x i) (bernstein s y z (b i)))

pub bernstein-zero : (x z : ℤ) (b : ℕ → ℤ) → bernstein 0 x z b ≡ b 0
bernstein-zero x z b = bernstein-weighed 0 x z b ∙ weighed-zero (λ i j. pow x i ⊗ (pow z j ⊗ b i)) ∙ simp (pow-zero, one-⊗)

-- one degree more is one more step, inside
pub bernstein-suc : (n : ℕ) (x z : ℤ) (b : ℕ → ℤ) → bernstein (suc n) x z b ≡ bernstein n x z (λ i. x ⊗ b (suc i) ⊕ z ⊗ b i)
bernstein-suc n x z b =
    bernstein-weighed (suc n) x z b ∙ weighed-suc n (λ i j. pow x i ⊗ (pow z j ⊗ b i)) ∙ sym (weighed-add n _ _)
    ∙ weighed-cong n _ _ (λ i j. rw (pow-suc x i, pow-suc z j) (inside (pow x i) (pow z j) (b (suc i)) (b i)))
    ∙ sym (bernstein-weighed n x z _)
  where
    inside : (X Z c d : ℤ) → x ⊗ X ⊗ (Z ⊗ c) ⊕ X ⊗ (z ⊗ Z ⊗ d) ≡ X ⊗ (Z ⊗ (x ⊗ c ⊕ z ⊗ d))
    inside X Z c d = simp ring

pub bernstein-cong : (n : ℕ) (x z : ℤ) (b c : ℕ → ℤ) → ((i : ℕ) → b i ≡ c i) → bernstein n x z b ≡ bernstein n x z c
bernstein-cong n x z b c e = λ t. bernstein n x z (λ i. e i t)

-- only b(0) to b(n) count
pub bernstein-cong-on : (n : ℕ) (x z : ℤ) (b c : ℕ → ℤ) → ((i : ℕ) → i ≤ n → b i ≡ c i) → bernstein n x z b ≡ bernstein n x z c
bernstein-cong-on n x z b c e =
    bernstein-is n x z b ∙ sum-cong-on n _ _ (λ i j h. ap (λ s. pos (choose n i) ⊗ pow x i ⊗ pow z j ⊗ s) (e i (omega arith))) ∙ sym (bernstein-is n x z c)

-- values that are all equal
pub bernstein-const : (n : ℕ) (x z c : ℤ) → bernstein n x z (λ i. c) ≡ c ⊗ pow (x ⊕ z) n
bernstein-const n x z c =
    bernstein-weighed n x z (λ i. c) ∙ weighed-cong n _ _ (λ i j. out (pow x i) (pow z j)) ∙ weighed-scale n c _ ∙ ap (λ s. c ⊗ s) (binomial n x z)
  where
    out : (X Z : ℤ) → X ⊗ (Z ⊗ c) ≡ c ⊗ (X ⊗ Z)
    out X Z = simp mul-ac

pub bernstein-linear : (n : ℕ) (x z : ℤ) → Linear (bernstein n x z)
bernstein-linear n x z = record {
  add = λ f g. bernstein-weighed n x z _ ∙ weighed-cong n _ _ (λ i j. sum-in (pow x i) (pow z j) (f i) (g i)) ∙ weighed-add n _ _
      ∙ sym (ap₂ ◌⊕◌ (bernstein-weighed n x z f) (bernstein-weighed n x z g));
  scale = λ c f. bernstein-weighed n x z _ ∙ weighed-cong n _ _ (λ i j. factor-in (pow x i) (pow z j) c (f i)) ∙ weighed-scale n c _
      ∙ ap (λ s. c ⊗ s) (sym (bernstein-weighed n x z f));
}
  where
    sum-in : (X Z f g : ℤ) → X ⊗ (Z ⊗ (f ⊕ g)) ≡ X ⊗ (Z ⊗ f) ⊕ X ⊗ (Z ⊗ g)
    sum-in X Z f g = simp ring

    factor-in : (X Z c f : ℤ) → X ⊗ (Z ⊗ (c ⊗ f)) ≡ c ⊗ (X ⊗ (Z ⊗ f))
    factor-in X Z c f = simp mul-ac

-- Bernstein's formula may be exchanged with any linear sum, such as another of its kind
pub bernstein-through : {A : Type 0} (sum : (A → ℤ) → ℤ) → Linear sum → (n : ℕ) (x z : ℤ) (b : ℕ → A → ℤ)
    → sum (λ a. bernstein n x z (λ i. b i a)) ≡ bernstein n x z (λ i. sum (b i))
bernstein-through sum linear zero x z b = under sum _ _ (λ a. bernstein-zero x z (λ i. b i a)) ∙ sym (bernstein-zero x z (λ i. sum (b i)))
bernstein-through sum linear (suc n) x z b =
    under sum _ _ (λ a. bernstein-suc n x z (λ i. b i a))
    ∙ bernstein-through sum linear n x z (λ i a. x ⊗ b (suc i) a ⊕ z ⊗ b i a)
    ∙ bernstein-cong n x z _ _ (λ i. linear.add _ _ ∙ ap₂ ◌⊕◌ (linear.scale x (b (suc i))) (linear.scale z (b i)))
    ∙ sym (bernstein-suc n x z (λ i. sum (b i)))

-- n steps with the same weights
unfoldable pub again : ℕ → Weights → Net → Net
again zero w p = p
again (suc n) w p = again n w (mix w p)

pub taken-again : (n : ℕ) (w : Weights) (rest : List Weights) (p : Net) → taken (replicate n w ++ rest) p ≡ taken rest (again n w p)
unfolding taken again
taken-again zero w rest p = refl
taken-again (suc n) w rest p = taken-again n w rest (mix w p)

pub taken-only : (n : ℕ) (w : Weights) (p : Net) → taken (replicate n w) p ≡ again n w p 0 0
unfolding taken
taken-only n w p = rw (← append-nil (replicate n w)) (taken-again n w [] p)

-- wherever a line of the net is stepped along by itself
along : (w : Weights) (x z : ℤ) (line : Net → ℕ → ℤ) → ((p : Net) (i : ℕ) → line (mix w p) i ≡ x ⊗ line p (suc i) ⊕ z ⊗ line p i)
    → (n : ℕ) (p : Net) → line (again n w p) 0 ≡ bernstein n x z (line p)
unfolding again
along w x z line by_itself zero p = sym (bernstein-zero x z (line p))
along w x z line by_itself (suc n) p =
    along w x z line by_itself n (mix w p) ∙ bernstein-cong n x z _ _ (by_itself p) ∙ sym (bernstein-suc n x z (line p))

pub along-i : (n : ℕ) (x z : ℤ) (p : Net) (j : ℕ) → again n (record { x = x; y = pos 0; z = z }) p 0 j ≡ bernstein n x z (λ i. p i j)
unfolding mix
along-i n x z p j = along _ x z (λ p i. p i j) (λ p i. simp ring) n p

pub along-j : (n : ℕ) (y z : ℤ) (p : Net) (i : ℕ) → again n (record { x = pos 0; y = y; z = z }) p i 0 ≡ bernstein n y z (p i)
unfolding mix
along-j n y z p i = along _ y z (λ p j. p i j) (λ p j. simp ring) n p

-- over the triangle
pub triangle-zero : (x y z : ℤ) (b : Net) → bernstein_triangle 0 x y z b ≡ b 0 0
triangle-zero x y z b = triangle-weighed 0 x y z b ∙ weighed-zero (λ i s. pow x i ⊗ bernstein s y z (b i)) ∙ rw (pow-zero x, one-⊗, bernstein-zero y z (b 0))

pub triangle-suc : (n : ℕ) (x y z : ℤ) (b : Net)
    → bernstein_triangle (suc n) x y z b ≡ bernstein_triangle n x y z (λ i j. x ⊗ b (suc i) j ⊕ y ⊗ b i (suc j) ⊕ z ⊗ b i j)
triangle-suc n x y z b =
    triangle-weighed (suc n) x y z b ∙ weighed-suc n (λ i s. pow x i ⊗ bernstein s y z (b i)) ∙ sym (weighed-add n _ _)
    ∙ weighed-cong n _ _ (λ i s. rw (pow-suc x i, bernstein-suc s y z (b i)) (out (pow x i) _ _ ∙ ap (λ c. pow x i ⊗ c) (inside i s)))
    ∙ sym (triangle-weighed n x y z _)
  where
    out : (X c d : ℤ) → x ⊗ X ⊗ c ⊕ X ⊗ d ≡ X ⊗ (x ⊗ c ⊕ d)
    out X c d = simp ring

    inside : (i s : ℕ)
        → x ⊗ bernstein s y z (b (suc i)) ⊕ bernstein s y z (λ j. y ⊗ b i (suc j) ⊕ z ⊗ b i j)
        ≡ bernstein s y z (λ j. x ⊗ b (suc i) j ⊕ y ⊗ b i (suc j) ⊕ z ⊗ b i j)
    inside i s =
        let line = bernstein-linear s y z in
        let after : ℕ → ℤ = λ j. y ⊗ b i (suc j) ⊕ z ⊗ b i j in
        ap (λ c. c ⊕ bernstein s y z after) (sym (line.scale x (b (suc i)))) ∙ sym (line.add (λ j. x ⊗ b (suc i) j) after)
        ∙ bernstein-cong s y z _ _ (λ j. sym (⊕-assoc (x ⊗ b (suc i) j) (y ⊗ b i (suc j)) (z ⊗ b i j)))

pub over-triangle : (n : ℕ) (w : Weights) (p : Net) → again n w p 0 0 ≡ bernstein_triangle n w.x w.y w.z p
unfolding again mix
over-triangle zero w p = sym (triangle-zero w.x w.y w.z p)
over-triangle (suc n) w p = over-triangle n w (mix w p) ∙ sym (triangle-suc n w.x w.y w.z p)
