-- The numerators of a patch, each times a^i·b^j·c^k, add up to Bernstein's formula for the surface at the domain's place: the
-- blossom is linear in every argument (`one-group` of `net`, the law that rides rest on), and a choice has its factor from its
-- points. Assumes nothing.
use mathlib.Core.Path.{◌≡◌, refl, sym, ◌∙◌, ap}
use mathlib.Core.Bool.{cond, ◌&&◌}
use mathlib.Core.List.{List, [], ◌∷◌, map}
use Prim.Native.Nat.{ℕ, zero, suc, ◌+◌, ◌*◌}
use native.Mathlib.Nat.{suc-mul}
use native.Mathlib.Omega.{arith}
use lib.Dec.{eqb}
use lib.IntN.{ℤ, pos, pow}
use lib.ListN.{replicate}
use Rattle.whole.specs.Sum.{sum_over}
use Rattle.whole.specs.Choose.{choose}
use Rattle.whole.proofs.Ring.{◌⊗◌, mul-ac, one-⊗, pos-mul, pow-zero, pow-add}
use Rattle.whole.proofs.Sums.{sum-cong-on, sum-scale}
use Rattle.net.specs.Net.{Net}
use Rattle.net.specs.Blossom.{Argument, within, blossom}
use Rattle.net.specs.Reading.{bernstein, bernstein_triangle}
use Rattle.net.proofs.Steps.{weights_of, taken, blossom-taken}
use Rattle.net.proofs.Evaluation.{all, all-linear, product, summed, one-group}
use Rattle.net.proofs.Bernstein.{bernstein-is, taken-only, over-triangle}
use Rattle.net.proofs.Powers.{scale-cond}
use Rattle.patch_net.specs.Patch.{Patch, longest, Index, net_of, path_number}
use Rattle.patch_net.specs.Composed.{multinomial, over_indices, over_choices, total, weight, arguments, numerator}
use Rattle.patch_net.specs.Reading.{coordinate, surface_read}
use Rattle.patch_net.proofs.Indices.{degree, indices-linear, indices-on, indices-through, index-pick}

pub choices-all : (r N : ℕ) (F : List Index → ℤ) → over_choices r N F ≡ all (over_indices N) r F
unfolding over_choices all
choices-all zero N F = refl
choices-all (suc r) N F = λ t. over_indices N (λ a. choices-all r N (λ rest. F (a ∷ rest)) t)

-- the indices of a choice add up to one of degree r·N
pub choices-on : (r N : ℕ) (F G : List Index → ℤ) → ((c : List Index) → degree (total c) ≡ r * N → F c ≡ G c)
    → all (over_indices N) r F ≡ all (over_indices N) r G
unfolding all total
choices-on zero N F G e = e [] (omega arith)
choices-on (suc r) N F G e =
    indices-on N _ _ (λ a h. choices-on r N (λ rest. F (a ∷ rest)) (λ rest. G (a ∷ rest)) (λ c k. e (a ∷ c) (omega (arith, suc-mul r N))))

triangle-is : (n : ℕ) (x y z : ℤ) (b : Net) → bernstein_triangle n x y z b ≡ sum_over n (λ i rest. pos (choose n i) ⊗ pow x i ⊗ bernstein rest y z (b i))
unfolding bernstein_triangle ◌⊗◌
triangle-is n x y z b = refl

module _ (a b c : ℤ) where
  unfoldable pub monomial : Index → ℤ
  monomial t = pow a t.i ⊗ (pow b t.j ⊗ pow c t.k)

  unfoldable pub factor : Index → ℤ
  factor t = pos (multinomial t) ⊗ monomial t

  product_is : (choice : List Index) → product factor choice ≡ pos (weight choice) ⊗ monomial (total choice)
  unfolding product factor monomial weight total
  product_is [] = rw (pow-zero a, pow-zero b, pow-zero c, one-⊗, one-⊗, one-⊗)
  product_is (t ∷ rest) =
      let r = total rest in
      rw (product_is rest, pos-mul (multinomial t) (weight rest), pow-add a t.i r.i, pow-add b t.j r.j, pow-add c t.k r.k)
      (simp mul-ac)

  -- one choice stands in one numerator alone
  picked : (L : ℕ) (choice : List Index) (v : ℤ) → degree (total choice) ≡ L
      → over_indices L (λ t. monomial t ⊗ cond (eqb (total choice).i t.i && eqb (total choice).j t.j) (pos (weight choice) ⊗ v) (pos 0))
      ≡ product factor choice ⊗ v
  picked L choice v h =
      indices-on L _ _ (λ t m. scale-cond (monomial t) (pos (weight choice) ⊗ v) (eqb (total choice).i t.i && eqb (total choice).j t.j))
      ∙ index-pick L (total choice) (λ t. monomial t ⊗ (pos (weight choice) ⊗ v)) h
      ∙ turn (monomial (total choice)) (pos (weight choice)) ∙ ap (λ x. x ⊗ v) (sym (product_is choice))
    where
      turn : (m w : ℤ) → m ⊗ (w ⊗ v) ≡ w ⊗ m ⊗ v
      turn m w = simp mul-ac

  -- the sum with these factors is Bernstein's triangular formula
  pub place : (N : ℕ) (f : Net) → over_indices N (λ t. factor t ⊗ f t.i t.j) ≡ bernstein_triangle N a b c f
  unfolding over_indices factor monomial multinomial
  place N f = sum-cong-on N _ _ line ∙ sym (triangle-is N a b c f)
    where
      turn : (C D A B E F : ℤ) → C ⊗ D ⊗ (A ⊗ (B ⊗ E)) ⊗ F ≡ C ⊗ A ⊗ (D ⊗ B ⊗ E ⊗ F)
      turn C D A B E F = simp mul-ac

      one : (i rest j k : ℕ) → i + rest ≡ N → j + k ≡ rest
          → pos (choose (i + j + k) i * choose (j + k) j) ⊗ (pow a i ⊗ (pow b j ⊗ pow c k)) ⊗ f i j
          ≡ pos (choose N i) ⊗ pow a i ⊗ (pos (choose rest j) ⊗ pow b j ⊗ pow c k ⊗ f i j)
      one i rest j k h m =
          let e : i + j + k ≡ N = omega arith in
          rw (e, m, pos-mul (choose N i) (choose rest j)) (turn (pos (choose N i)) (pos (choose rest j)) (pow a i) (pow b j) (pow c k) (f i j))

      line : (i rest : ℕ) → i + rest ≡ N
          → sum_over rest (λ j k. pos (choose (i + j + k) i * choose (j + k) j) ⊗ (pow a i ⊗ (pow b j ⊗ pow c k)) ⊗ f i j)
          ≡ pos (choose N i) ⊗ pow a i ⊗ bernstein rest b c (f i)
      line i rest h =
          sum-cong-on rest _ _ (λ j k m. one i rest j k h m) ∙ sum-scale rest (pos (choose N i) ⊗ pow a i) _
          ∙ ap (λ x. pos (choose N i) ⊗ pow a i ⊗ x) (sym (bernstein-is rest b c (f i)))

-- the numerators, each times its monomial, are the surface at the domain's place
module _ (p : Patch) (a b c : ℕ) where
  abbrev read : Index → Argument
  read t = within (path_number p 0 t.i t.j) (path_number p 1 t.i t.j) (path_number p 2 t.i t.j)

  weights : summed (over_indices p.domain) (factor (pos a) (pos b) (pos c)) (λ t. weights_of (read t))
      ≡ record { x = coordinate p 0 a b c; y = coordinate p 1 a b c; z = coordinate p 2 a b c }
  unfolding summed weights_of coordinate
  weights = λ s. record {
    x = place (pos a) (pos b) (pos c) p.domain (path_number p 0) s;
    y = place (pos a) (pos b) (pos c) p.domain (path_number p 1) s;
    z = place (pos a) (pos b) (pos c) p.domain (path_number p 2) s;
  }

  literal : (t : Index) → numerator p t
      ≡ all (over_indices p.domain) p.outer
      (λ choice. cond (eqb (total choice).i t.i && eqb (total choice).j t.j) (pos (weight choice) ⊗ blossom (arguments p choice) (net_of p)) (pos 0))
  unfolding numerator ◌⊗◌
  literal t = choices-all p.outer p.domain _

  -- what a choice's blossom is worth, with its factors
  choice-read : (choice : List Index) → product (factor (pos a) (pos b) (pos c)) choice ⊗ blossom (arguments p choice) (net_of p)
      ≡ product (factor (pos a) (pos b) (pos c)) choice ⊗ taken (map weights_of (map read choice)) (net_of p)
  unfolding arguments
  choice-read choice = ap (λ x. product (factor (pos a) (pos b) (pos c)) choice ⊗ x) (blossom-taken (map read choice) (net_of p))

  pub numerators-read : over_indices (longest p) (λ t. monomial (pos a) (pos b) (pos c) t ⊗ numerator p t) ≡ surface_read p a b c
  unfolding longest surface_read
  numerators-read =
      let sum = over_indices p.domain in
      let n = p.outer in
      let N = p.domain in
      let line = all-linear sum (indices-linear N) n in
      let value : List Index → ℤ = λ choice. pos (weight choice) ⊗ blossom (arguments p choice) (net_of p) in
      let m = monomial (pos a) (pos b) (pos c) in
      indices-on (n * N) _ _ (λ t h. ap (λ x. m t ⊗ x) (literal t) ∙ sym (line.scale (m t) _))
      ∙ indices-through (all sum n) line (n * N) (λ t choice. m t ⊗ cond (eqb (total choice).i t.i && eqb (total choice).j t.j) (value choice) (pos 0))
      ∙ choices-on n N _ _ (λ choice h. picked (pos a) (pos b) (pos c) (n * N) choice _ h ∙ choice-read choice)
      ∙ one-group sum (indices-linear N) (factor (pos a) (pos b) (pos c)) n read (net_of p)
      ∙ ap (λ w. taken (replicate n w) (net_of p)) weights ∙ taken-only n _ (net_of p) ∙ over-triangle n _ (net_of p)
