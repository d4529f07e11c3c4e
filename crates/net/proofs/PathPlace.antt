-- The path's points, summed with Bernstein's factors, are the path's place, times 1024·q^N; so the numerators add up to
-- Bernstein's formula for the surface there, for a curve, a tensor surface and a triangular one. Assumes nothing.
use mathlib.Core.Path.{◌≡◌, sym, ◌∙◌, ap, ap₂}
use mathlib.Core.List.{◌++◌, map}
use Prim.Native.Nat.{ℕ, ◌+◌, ◌-◌, ◌≤◌}
use native.Mathlib.Omega.{arith}
use lib.IntN.{ℤ, pos, pow}
use lib.ListN.{take, drop, replicate}
use Rattle.whole.specs.Sum.{sum_to}
use Rattle.whole.specs.Choose.{choose}
use Rattle.whole.proofs.Ring.{◌⊕◌, ◌⊖◌, ◌⊗◌, mul-ac, zero-⊗, is-sub, sub-⊕}
use Rattle.whole.proofs.Sums.{sum-cong-on}
use Rattle.net.specs.Net.{Net}
use Rattle.net.specs.Blossom.{Argument, along_u, along_v, within}
use Rattle.net.specs.Reading.{bernstein, bernstein_triangle}
use Rattle.net.proofs.Steps.{Weights, weights_of, taken}
use Rattle.net.proofs.Evaluation.{summed, one-group, two-groups}
use Rattle.net.proofs.Bernstein.{bernstein-is, bernstein-const, bernstein-cong, bernstein-cong-on, bernstein-linear, bernstein-through}
use Rattle.net.proofs.Bernstein.{again, taken-again, taken-only, along-i, along-j, over-triangle}
use Rattle.net.proofs.Powers.{sum_to-linear, factor, Reads, numerators}

module _ (N : ℕ) (a b : ℤ) where
  place : (f : ℕ → ℤ) → sum_to N (λ c. factor N a b c ⊗ f c) ≡ bernstein N a b f
  unfolding sum_to factor
  place f = sum-cong-on N _ _ one ∙ sym (bernstein-is N a b f)
    where
      same : (c x z f : ℤ) → c ⊗ (x ⊗ z) ⊗ f ≡ c ⊗ x ⊗ z ⊗ f
      same c x z f = simp mul-ac

      one : (c d : ℕ) → c + d ≡ N → pos (choose N c) ⊗ (pow a c ⊗ pow b (N - c)) ⊗ f c ≡ pos (choose N c) ⊗ pow a c ⊗ pow b d ⊗ f c
      one c d h =
          let e : N - c ≡ d = omega arith in
          rw e (same (pos (choose N c)) (pow a c) (pow b d) (f c))

  none : sum_to N (λ c. factor N a b c ⊗ pos 0) ≡ pos 0
  none = place (λ c. pos 0) ∙ bernstein-const N a b (pos 0) ∙ zero-⊗ _

  -- the rest of a scale of 1024 at each point is the rest of the whole scale
  rest : (f : ℕ → ℤ) → sum_to N (λ c. factor N a b c ⊗ (pos 1024 ⊖ f c)) ≡ pos 1024 ⊗ pow (a ⊕ b) N ⊖ bernstein N a b f
  rest f =
      place (λ c. pos 1024 ⊖ f c)
      ∙ is-sub _ _ _
      (sym ((bernstein-linear N a b).add (λ c. pos 1024 ⊖ f c) f) ∙ bernstein-cong N a b _ _ (λ c. sub-⊕ (pos 1024) (f c)) ∙ bernstein-const N a b (pos 1024))

  pub balanced : (number : ℕ → ℕ → ℤ) → ((c : ℕ) → c ≤ N → number c 0 ⊕ number c 1 ⊕ number c 2 ≡ pos 1024)
      → bernstein N a b (λ c. number c 0) ⊕ bernstein N a b (λ c. number c 1) ⊕ bernstein N a b (λ c. number c 2) ≡ pos 1024 ⊗ pow (a ⊕ b) N
  balanced number each =
      let line = bernstein-linear N a b in
      ap (λ x. x ⊕ bernstein N a b (λ c. number c 2)) (sym (line.add (λ c. number c 0) (λ c. number c 1)))
      ∙ sym (line.add (λ c. number c 0 ⊕ number c 1) (λ c. number c 2)) ∙ bernstein-cong-on N a b _ _ each ∙ bernstein-const N a b (pos 1024)

  -- steps with the summed weights of a reading, one group or two
  module _ (p : Net) where
    one-kind : (n : ℕ) (read : ℕ → Argument) {w : Weights} → summed (sum_to N) (factor N a b) (λ c. weights_of (read c)) ≡ w
        → Reads N a b p n (map read) (again n w p 0 0)
    one-kind n read {w} e =
        numerators N a b p n _ _ (one-group (sum_to N) (sum_to-linear N) (factor N a b) n read) ∙ ap (λ w. taken (replicate n w) p) e ∙ taken-only n w p

    two-kinds : (l m : ℕ) (read also : ℕ → Argument) {w v : Weights}
        → summed (sum_to N) (factor N a b) (λ c. weights_of (read c)) ≡ w → summed (sum_to N) (factor N a b) (λ c. weights_of (also c)) ≡ v
        → Reads N a b p (l + m) (λ c. map read (take l c) ++ map also (drop l c)) (again m v (again l w p) 0 0)
    two-kinds l m read also {w} {v} e d =
        numerators N a b p (l + m) _ _ (two-groups (sum_to N) (sum_to-linear N) (factor N a b) l m read also)
        ∙ ap₂ (λ w v. taken (replicate l w ++ replicate m v) p) e d ∙ taken-again l w (replicate m v) p ∙ taken-only m v (again l w p)

  -- the three forms; `one` is the scale of the coordinates
  module _ (p : Net) (number : ℕ → ℕ → ℤ) (one : ℤ) (is_one : pos 1024 ⊗ pow (a ⊕ b) N ≡ one) where
    abbrev here : ℕ → ℤ
    here t = bernstein N a b (λ c. number c t)

    left : (t : ℕ) → sum_to N (λ c. factor N a b c ⊗ (pos 1024 ⊖ number c t)) ≡ one ⊖ here t
    left t = rest (λ c. number c t) ∙ ap (λ x. x ⊖ here t) is_one

    u-weights : summed (sum_to N) (factor N a b) (λ c. weights_of (along_u (number c 0))) ≡ record { x = here 0; y = pos 0; z = one ⊖ here 0 }
    unfolding summed weights_of
    u-weights = λ t. record { x = place (λ c. number c 0) t; y = none t; z = left 0 t }

    v-weights : summed (sum_to N) (factor N a b) (λ c. weights_of (along_v (number c 1))) ≡ record { x = pos 0; y = here 1; z = one ⊖ here 1 }
    unfolding summed weights_of
    v-weights = λ t. record { x = none t; y = place (λ c. number c 1) t; z = left 1 t }

    xyz-weights : summed (sum_to N) (factor N a b) (λ c. weights_of (within (number c 0) (number c 1) (number c 2))) ≡ record
        { x = here 0; y = here 1; z = here 2 }
    unfolding summed weights_of
    xyz-weights = λ t. record { x = place (λ c. number c 0) t; y = place (λ c. number c 1) t; z = place (λ c. number c 2) t }

    pub curve : (m : ℕ) → Reads N a b p m (map (λ c. along_u (number c 0))) (bernstein m (here 0) (one ⊖ here 0) (λ i. p i 0))
    curve m = one-kind p m _ u-weights ∙ along-i m (here 0) (one ⊖ here 0) p 0

    pub tensor : (l m : ℕ)
        → Reads N a b p (l + m) (λ c. map (λ c. along_u (number c 0)) (take l c) ++ map (λ c. along_v (number c 1)) (drop l c))
        (bernstein l (here 0) (one ⊖ here 0) (λ i. bernstein m (here 1) (one ⊖ here 1) (p i)))
    tensor l m =
        two-kinds p l m _ _ u-weights v-weights ∙ along-j m (here 1) (one ⊖ here 1) _ 0
        ∙ bernstein-cong m (here 1) (one ⊖ here 1) _ _ (λ j. along-i l (here 0) (one ⊖ here 0) p j)
        ∙ bernstein-through _ (bernstein-linear m (here 1) (one ⊖ here 1)) l (here 0) (one ⊖ here 0) p

    pub triangle : (n : ℕ) → Reads N a b p n (map (λ c. within (number c 0) (number c 1) (number c 2))) (bernstein_triangle n (here 0) (here 1) (here 2) p)
    triangle n = one-kind p n _ xyz-weights ∙ over-triangle n _ p
