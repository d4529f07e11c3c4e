-- Demand 3 over the definitions: at every place (a, b, c)/q the patch drawn with the rounded points is within half a unit of the
-- surface at the domain's place, by the law of `net` that a curve has it by (`near`): Bernstein's factors are not negative and add up to
-- q^L. Assumes nothing.
use mathlib.Core.Path.{◌≡◌, sym, ◌∙◌, ap}
use Prim.Native.Nat.{ℕ, ◌+◌, ◌*◌, ◌^◌, ◌≤◌, ◌<◌}
use native.Mathlib.Nat.{mul-pos, one-le-pow}
use native.Mathlib.Omega.{arith}
use lib.IntN.{ℤ, pos, nat_abs, pow, ◌*ℤ◌, ◌-ℤ◌}
use Rattle.whole.proofs.Ring.{◌⊕◌, ◌⊖◌, ◌⊗◌, one-⊗, ⊗-one, pos-add, pow_pos}
use Rattle.whole.proofs.Binomial.{weighed-cong, binomial}
use Rattle.whole.proofs.Bound.{◌⊑◌, ⊑-mul, ⊑-pow, ⊑-refl-pos}
use Rattle.whole.proofs.Rounding.{nearest-error}
use Rattle.net.specs.Net.{Net}
use Rattle.net.specs.Reading.{bernstein_triangle}
use Rattle.net.proofs.Bernstein.{triangle-weighed, bernstein-const}
use Rattle.net.proofs.Rounded.{choose-some, Bounding, near}
use Rattle.patch_net.specs.Patch.{Patch, longest, Index}
use Rattle.patch_net.specs.Composed.{multinomial, over_indices, numerator, denominator, point}
use Rattle.patch_net.specs.Reading.{surface_read}
use Rattle.patch_net.proofs.Indices.{degree, indices-linear, indices-on, indices-⊑}
use Rattle.patch_net.proofs.Evaluated.{monomial, factor, place, numerators-read}

-- the factors add up to the power of the sum
triangle-ones : (n : ℕ) (x y z : ℤ) → bernstein_triangle n x y z (λ i j. pos 1) ≡ pow (x ⊕ (y ⊕ z)) n
triangle-ones n x y z =
    triangle-weighed n x y z (λ i j. pos 1) ∙ weighed-cong n _ _ (λ i s. ap (λ w. pow x i ⊗ w) (bernstein-const s y z (pos 1) ∙ one-⊗ _)) ∙ binomial n x (y ⊕ z)

indices-sums : (L : ℕ) → Bounding (λ (t : Index). degree t ≡ L) (over_indices L)
indices-sums L = record { linear = indices-linear L; under = λ {F} {G} h. indices-⊑ L h }

module _ (L a b c : ℕ) where
  abbrev m : Index → ℤ
  m = monomial (pos a) (pos b) (pos c)

  factors : (q : ℕ) → a + b + c ≡ q → over_indices L (λ t. pos (multinomial t) ⊗ m t) ≡ pos (q ^ L)
  unfolding factor
  factors q e =
      let sum : pos a ⊕ (pos b ⊕ pos c) ≡ pos q = ap (λ x. pos a ⊕ x) (sym (pos-add b c)) ∙ sym (pos-add a (b + c)) ∙ ap pos (omega arith) in
      indices-on L _ _ (λ t h. sym (⊗-one (pos (multinomial t) ⊗ m t)))
      ∙ place (pos a) (pos b) (pos c) L (λ i j. pos 1) ∙ triangle-ones L (pos a) (pos b) (pos c) ∙ ap (λ x. pow x L) sum ∙ pow_pos q L

  not_negative : (t : Index) → m t ⊑ m t
  unfolding monomial
  not_negative t = ⊑-mul (⊑-pow t.i (⊑-refl-pos a)) (⊑-mul (⊑-pow t.j (⊑-refl-pos b)) (⊑-pow t.k (⊑-refl-pos c)))

pub some-ways : (t : Index) → 0 < multinomial t
unfolding multinomial
some-ways t =
    let e : t.i + t.j + t.k ≡ t.i + (t.j + t.k) = omega arith in
    mul-pos (rw e (choose-some t.i (t.j + t.k))) (choose-some t.j t.k)

pub denominator-some : (p : Patch) (t : Index) → 0 < denominator p t
unfolding denominator
denominator-some p t = mul-pos (some-ways t) (one-le-pow p.outer 1024 (omega arith))

-- at every place, of every patch
pub at_place : (p : Patch) (P : Net) (a b c q : ℕ) → a + b + c ≡ q → ((t : Index) → degree t ≡ longest p → P t.i t.j ≡ point p t)
    → nat_abs (pos 2 *ℤ (pos (1024 ^ p.outer) *ℤ bernstein_triangle (longest p) (pos a) (pos b) (pos c) P -ℤ surface_read p a b c))
    ≤ 1024 ^ p.outer * q ^ longest p
unfolding point denominator factor ◌⊖◌ ◌⊗◌
at_place p P a b c q e same =
    rw (numerators-read p a b c, place (pos a) (pos b) (pos c) (longest p) P) at
    (near (over_indices (longest p)) (indices-sums (longest p)) (1024 ^ p.outer) (monomial (pos a) (pos b) (pos c)) multinomial (q ^ longest p)
    (λ t. P t.i t.j) (numerator p) (factors (longest p) a b c q e) (λ t h. not_negative (longest p) a b c t)
    (λ t h. rw (same t h) (nearest-error (numerator p t) (denominator p t) (denominator-some p t))))
