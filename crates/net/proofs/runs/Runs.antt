-- The sum over all choices is the sum over runs: the binomial theorem for commuting steps. Assumes nothing.
use mathlib.Core.Path.{◌≡◌, refl, sym, ◌∙◌, ap, ap₂}
use mathlib.Core.List.{List, [], ◌∷◌}
use Prim.Native.Nat.{ℕ, zero, suc, ◌+◌, ◌*◌, ◌^◌}
use native.Mathlib.Omega.{arith}
use lib.IntN.{ℤ, pos, pow}
use Rattle.whole.specs.Choose.{choose}
use Rattle.whole.proofs.Ring.{◌⊕◌, ◌⊗◌, ⊗-assoc, ⊗-left-comm, ⊗-⊕, ⊗-zero, one-⊗, pos-mul, pow-zero, pow-suc, pow_pos}
use Rattle.whole.proofs.Sums.{sum-cong, sum-none}
use Rattle.whole.proofs.Binomial.{weighed, weighed-zero, weighed-suc, weighed-cong, weighed-add, weighed-scale}
use Rattle.net.specs.Net.{Net}
use Rattle.net.specs.Blossom.{Argument, step}
use Rattle.net.proofs.Steps.{weights_of, step-mix, mix-comm}
use Rattle.net.specs.runs.Terms.{Term, Reading, over, chosen, repeated, runs}

-- ---- the sum over a list is linear
pub over-cons : {A : Type 0} (a : A) (T : List A) (f : A → ℤ) → over (a ∷ T) f ≡ f a ⊕ over T f
unfolding over ◌⊕◌
over-cons a T f = refl

pub over-cong : {A : Type 0} (T : List A) (f g : A → ℤ) → ((a : A) → f a ≡ g a) → over T f ≡ over T g
over-cong T f g e = λ t. over T (λ a. e a t)

pub over-scale : {A : Type 0} (T : List A) (c : ℤ) (f : A → ℤ) → over T (λ a. c ⊗ f a) ≡ c ⊗ over T f
unfolding over
over-scale [] c f = sym (⊗-zero c)
over-scale (a ∷ T) c f = over-cons a T (λ a. c ⊗ f a) ∙ ap (λ x. c ⊗ f a ⊕ x) (over-scale T c f) ∙ sym (⊗-⊕ c (f a) (over T f)) ∙ ap (λ x. c ⊗ x)
    (sym (over-cons a T f))

weighed-none : (n : ℕ) → weighed n (λ i k. pos 0) ≡ pos 0
unfolding weighed
weighed-none n = sum-cong n _ _ (λ i k. ⊗-zero (pos (choose n i))) ∙ sum-none n

-- a sum over a list may be exchanged with a weighed one
over-weighed : {A : Type 0} (T : List A) (n : ℕ) (H : A → ℕ → ℕ → ℤ) → over T (λ a. weighed n (H a)) ≡ weighed n (λ i k. over T (λ a. H a i k))
unfolding over
over-weighed [] n H = sym (weighed-none n)
over-weighed (a ∷ T) n H =
    over-cons a T (λ a. weighed n (H a)) ∙ ap (λ x. weighed n (H a) ⊕ x) (over-weighed T n H)
    ∙ sym (weighed-add n (H a) (λ i k. over T (λ a. H a i k)))
    ∙ weighed-cong n _ _ (λ i k. sym (over-cons a T (λ a. H a i k)))

-- ---- steps commute
pub steps-comm : (a b : Argument) (p : Net) → step b (step a p) ≡ step a (step b p)
steps-comm a b p = simp step-mix (λ t i j. mix-comm (weights_of b) (weights_of a) p i j t)

pub repeated-comm : (e : ℕ) (a b : Argument) (p : Net) → repeated e a (step b p) ≡ step b (repeated e a p)
unfolding repeated
repeated-comm zero a b p = refl
repeated-comm (suc e) a b p = ap (repeated e a) (steps-comm b a p) ∙ repeated-comm e a b (step a p)

-- ---- all choices
pub chosen-zero : (T : List Term) (F : Reading) (s : ℕ) (p : Net) → chosen T 0 F s p ≡ F s p
unfolding chosen
chosen-zero T F s p = refl

pub chosen-suc : (T : List Term) (r : ℕ) (F : Reading) (s : ℕ) (p : Net)
    → chosen T (suc r) F s p ≡ over T (λ t. pos t.weight ⊗ chosen T r F (s + t.key) (step t.argument p))
unfolding chosen ◌⊗◌
chosen-suc T r F s p = refl

-- the first term taken e times, and k arguments left for the later ones
module _ (t : Term) (T : List Term) (F : Reading) where
  unfoldable pub times : ℕ → Net → ℕ → ℕ → ℤ
  times s p e k = pow (pos t.weight) e ⊗ chosen T k F (s + e * t.key) (repeated e t.argument p)

  -- once more the first term
  times-again : (s : ℕ) (p : Net) (e k : ℕ) → pos t.weight ⊗ times (s + t.key) (step t.argument p) e k ≡ times s p (suc e) k
  unfolding times repeated
  times-again s p e k =
      let q : s + t.key + e * t.key ≡ s + suc e * t.key = omega arith in
      rw (q, pow-suc (pos t.weight) e, ⊗-assoc)

  -- one of the later terms
  times-later : (s : ℕ) (p : Net) (e k : ℕ)
      → over T (λ u. pos u.weight ⊗ times (s + u.key) (step u.argument p) e k) ≡ times s p e (suc k)
  unfolding times
  times-later s p e k =
      over-cong T _ _ (λ u. one u) ∙ over-scale T (pow (pos t.weight) e) _
      ∙ ap (λ x. pow (pos t.weight) e ⊗ x) (sym (chosen-suc T k F (s + e * t.key) (repeated e t.argument p)))
    where
      one : (u : Term) → pos u.weight ⊗ (pow (pos t.weight) e ⊗ chosen T k F (s + u.key + e * t.key) (repeated e t.argument (step u.argument p)))
          ≡ pow (pos t.weight) e ⊗ (pos u.weight ⊗ chosen T k F (s + e * t.key + u.key) (step u.argument (repeated e t.argument p)))
      one u =
          let q : s + u.key + e * t.key ≡ s + e * t.key + u.key = omega arith in
          rw (q, repeated-comm e t.argument u.argument p) (⊗-left-comm _ _ _)

  times-start : (s : ℕ) (p : Net) → chosen (t ∷ T) 0 F s p ≡ times s p 0 0
  unfolding times repeated
  times-start s p =
      let q : s + 0 * t.key ≡ s = omega arith in
      rw (q, pow-zero (pos t.weight), one-⊗, chosen-zero (t ∷ T) F s p, chosen-zero T F s p)

  pub split : (r s : ℕ) (p : Net) → chosen (t ∷ T) r F s p ≡ weighed r (times s p)
  split zero s p = times-start s p ∙ sym (weighed-zero (times s p))
  split (suc r) s p =
      chosen-suc (t ∷ T) r F s p ∙ over-cons t T _
      ∙ ap₂ ◌⊕◌
      (ap (λ x. pos t.weight ⊗ x) (split r _ _) ∙ sym (weighed-scale r (pos t.weight) _) ∙ weighed-cong r _ _ (times-again s p))
      (over-cong T _ _ (λ u. ap (λ x. pos u.weight ⊗ x) (split r (s + u.key) (step u.argument p)) ∙ sym (weighed-scale r (pos u.weight) _))
      ∙ over-weighed T r _ ∙ weighed-cong r _ _ (times-later s p))
      ∙ sym (weighed-suc r (times s p))

-- a binomial and a power of a weight, as one number
pub as_one : (c w e : ℕ) (x : ℤ) → pos c ⊗ (pow (pos w) e ⊗ x) ≡ pos (c * w ^ e) ⊗ x
as_one c w e x = rw (pow_pos w e, pos-mul, ⊗-assoc)

pub runs-cons : (t : Term) (T : List Term) (r : ℕ) (F : Reading) (s : ℕ) (p : Net)
    → runs (t ∷ T) r F s p ≡ weighed r (λ e k. pow (pos t.weight) e ⊗ runs T k F (s + e * t.key) (repeated e t.argument p))
unfolding runs weighed ◌⊗◌
runs-cons t T r F s p = sum-cong r _ _ (λ e k. sym (as_one (choose r e) t.weight e (runs T k F (s + e * t.key) (repeated e t.argument p))))

pub chosen-runs : (T : List Term) (r : ℕ) (F : Reading) (s : ℕ) (p : Net) → chosen T r F s p ≡ runs T r F s p
unfolding runs over chosen times
chosen-runs [] zero F s p = refl
chosen-runs [] (suc r) F s p = refl
chosen-runs (t ∷ T) r F s p =
    split t T F r s p
    ∙ weighed-cong r _ _ (λ e k. ap (λ x. pow (pos t.weight) e ⊗ x) (chosen-runs T k F (s + e * t.key) (repeated e t.argument p)))
    ∙ sym (runs-cons t T r F s p)
