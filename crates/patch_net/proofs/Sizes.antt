-- How large a patch's numerator and point can be: a numerator is at most its denominator times the greatest travel, since the weights
-- of the choices of one place add up to its multinomial. Assumes nothing.
use mathlib.Core.Path.{◌≡◌, refl, sym, ◌∙◌, ap, subst}
use mathlib.Core.Bool.{cond, ◌&&◌}
use mathlib.Core.List.{List, [], ◌∷◌}
use Prim.Native.Nat.{ℕ, zero, suc, ◌+◌, ◌*◌, ◌-◌, ◌^◌, ◌≤◌}
use native.Mathlib.Nat.{add-zero, zero-add, add_assoc, add_comm, suc-mul, mul_comm, mul_assoc}
use native.Mathlib.Decide.{ℕ_discrete}
use native.Mathlib.Omega.{arith}
use lib.Dec.{eqb}
use lib.IntN.{ℤ, pos, nat_abs}
use lib.ListN.{length, length-map}
use borrow.Author.Tests.{eq-eqb, ne_eqb, eqb-true, not-false}
use Rattle.whole.specs.Choose.{choose_from}
use Rattle.whole.proofs.Ring.{◌⊗◌, mul-ac, one-⊗, ⊗-assoc, pos-mul}
use Rattle.whole.proofs.Bound.{◌⊑◌, ⊑-of, ⊑-le, ⊑-scale}
use Rattle.whole.proofs.Rounding.{nearest-size}
use Rattle.request.proofs.units.Within.{IsPath}
use Rattle.request.specs.Refusal.{uneven}
use Rattle.request.proofs.Least.{least-before}
use Rattle.request.proofs.Bounds.{path-numbers, travels, uneven-is}
use Rattle.net.specs.Net.{row_start}
use Rattle.net.specs.Blossom.{within, blossom}
use Rattle.net.proofs.Every.{Every, none, more, every_map}
use Rattle.net.proofs.Weigh.{weighs-within}
use Rattle.net.proofs.Evaluation.{all, all_under, all-linear}
use Rattle.net.proofs.Powers.{scale-cond}
use Rattle.net.proofs.Bounds.{Shared, blossom-size, choose_from-self}
use Rattle.patch_net.specs.Patch.{Patch, longest, places, Index, net_of, path_number}
use Rattle.patch_net.specs.Refusal.{balance_place}
use Rattle.patch_net.specs.Composed.{multinomial, over_indices, total, weight, arguments, numerator, denominator, point}
use Rattle.patch_net.specs.Sizes.{Composable}
use Rattle.patch_net.proofs.Indices.{degree, indices-linear, indices-on, indices-⊑}
use Rattle.patch_net.proofs.Standing.{place_inside}
use Rattle.patch_net.proofs.Ways.{ways, ways-all, ways-join}
use Rattle.patch_net.proofs.Evaluated.{choices-all}
use Rattle.patch_net.proofs.Half.{denominator-some}

-- ---- a sum over the choices of one place
-- what a choice adds, where (i, j) is what the points before it come to
unfoldable reached : ℕ → ℕ → ℕ → ℕ → (List Index → ℤ) → List Index → ℤ
reached i j I J f c = cond (eqb (i + (total c).i) I && eqb (j + (total c).j) J) (pos (weight c) ⊗ f c) (pos 0)

reached-more : (i j I J : ℕ) (f : List Index → ℤ) (a : Index) (rest : List Index)
    → reached i j I J f (a ∷ rest) ≡ pos (multinomial a) ⊗ reached (i + a.i) (j + a.j) I J (λ r. f (a ∷ r)) rest
unfolding reached total weight
reached-more i j I J f a rest =
    sym
    (scale-cond (pos (multinomial a)) _ (eqb (i + a.i + (total rest).i) I && eqb (j + a.j + (total rest).j) J)
    ∙ rw (add_assoc i a.i (total rest).i, add_assoc j a.j (total rest).j, pos-mul (multinomial a) (weight rest), ⊗-assoc))

spread : (N r i j I J K : ℕ) → over_indices N (λ a. pos (multinomial a) ⊗ (pos K ⊗ pos (ways (r * N) (i + a.i) (j + a.j) I J)))
    ≡ pos (K * ways (suc r * N) i j I J)
spread N r i j I J K =
    let e : N + r * N ≡ suc r * N = add_comm N (r * N) ∙ sym (suc-mul r N) in
    indices-on N _ _ (λ a h. order (pos (multinomial a)) (pos (ways (r * N) (i + a.i) (j + a.j) I J)))
    ∙ (indices-linear N).scale (pos K) _
    ∙ ap (λ x. pos K ⊗ x) (ways-join N (r * N) i j I J ∙ ap (λ n. pos (ways n i j I J)) e) ∙ sym (pos-mul K _)
  where
    order : (m w : ℤ) → m ⊗ (pos K ⊗ w) ≡ pos K ⊗ (m ⊗ w)
    order m w = simp mul-ac

-- no argument is left
reached-none : (N i j I J K : ℕ) (f : List Index → ℤ) → nat_abs (f []) ≤ K → nat_abs (reached i j I J f []) ≤ K * ways (0 * N) i j I J
unfolding reached total weight ways
reached-none N i j I J K f most = go (ℕ_discrete i I) (ℕ_discrete j J)
  where
    go : Dec (i ≡ I) → Dec (j ≡ J)
        → nat_abs (cond (eqb (i + 0) I && eqb (j + 0) J) (pos 1 ⊗ f []) (pos 0)) ≤ K * (choose_from (0 * N) i I * choose_from (0 * N - (I - i)) j J)
    go (yes a) (yes b) =
        let one : choose_from (0 * N) i I ≡ 1 = ap (choose_from (0 * N) i) (sym a) ∙ choose_from-self (0 * N) i in
        let two : choose_from (0 * N - (I - i)) j J ≡ 1 = ap (choose_from (0 * N - (I - i)) j) (sym b) ∙ choose_from-self (0 * N - (I - i)) j in
        rw (add-zero i, add-zero j, eq-eqb i I a, eq-eqb j J b, one, two, one-⊗) (omega arith)
    go (yes a) (no b) = rw (add-zero i, add-zero j, eq-eqb i I a, ne_eqb j J b) (omega arith)
    go (no a) b = rw (add-zero i, add-zero j, ne_eqb i I a) (omega arith)

-- one argument more: its point weighs what the rest comes to
reached-part : (N r i j I J K : ℕ) (f : List Index → ℤ) (a : Index)
    → nat_abs (all (over_indices N) r (reached (i + a.i) (j + a.j) I J (λ rest. f (a ∷ rest)))) ≤ K * ways (r * N) (i + a.i) (j + a.j) I J
    → all (over_indices N) r (λ rest. reached i j I J f (a ∷ rest)) ⊑ pos (multinomial a) ⊗ (pos K ⊗ pos (ways (r * N) (i + a.i) (j + a.j) I J))
reached-part N r i j I J K f a h =
    rw (
      all_under (over_indices N) r _ _ (reached-more i j I J f a) ∙ (all-linear (over_indices N) (indices-linear N) r).scale (pos (multinomial a)) _,
      ← (pos-mul K (ways (r * N) (i + a.i) (j + a.j) I J)),
    )
    (⊑-scale (multinomial a) (⊑-of h))

sum-size : (N r i j I J K : ℕ) (f : List Index → ℤ)
    → ((c : List Index) → length c ≡ r → Every (λ (a : Index). degree a ≡ N) c → nat_abs (f c) ≤ K)
    → nat_abs (all (over_indices N) r (reached i j I J f)) ≤ K * ways (r * N) i j I J
unfolding all
sum-size N zero i j I J K f most = reached-none N i j I J K f (most [] refl none)
sum-size N (suc r) i j I J K f most =
    ⊑-le
    (subst (λ y. over_indices N (λ a. all (over_indices N) r (λ rest. reached i j I J f (a ∷ rest))) ⊑ y) (spread N r i j I J K)
    (indices-⊑ N (λ a h. reached-part N r i j I J K f a (sum-size N r (i + a.i) (j + a.j) I J K (λ rest. f (a ∷ rest))
    (λ rest l e. most (a ∷ rest) (ap suc l) (more h e))))))

-- ---- a patch
module _ (p : Patch) (fine : Composable p) where
  number : (t i j : ℕ) → IsPath (path_number p t i j)
  unfolding path_number
  number t i j = path-numbers p.path fine.numbers (3 * (row_start p.domain i + j) + t)

  module _ (a : Index) (h : degree a ≡ p.domain) where
    pub adds-up : nat_abs (path_number p 0 a.i a.j) + nat_abs (path_number p 1 a.i a.j) + nat_abs (path_number p 2 a.i a.j) ≡ 1024
    unfolding path_number balance_place
    adds-up =
        let c = row_start p.domain a.i + a.j in
        let even = least-before (places p.domain) (uneven p.path) c (rw fine.even (place_inside p.domain a h)) in
        rw (add-zero) (eqb-true _ _ (not-false _ (sym (uneven-is p.path c fine.numbers) ∙ even)))

    shared : Shared (within (path_number p 0 a.i a.j) (path_number p 1 a.i a.j) (path_number p 2 a.i a.j))
    shared = rw ((number 0 a.i a.j).size, (number 1 a.i a.j).size, (number 2 a.i a.j).size) (_, weighs-within _ _ _ adds-up)

  of-degree : (c : List Index) → length c ≡ p.outer → Every (λ (a : Index). degree a ≡ p.domain) c
      → nat_abs (blossom (arguments p c) (net_of p)) ≤ 1024 ^ p.outer * 4096
  unfolding arguments net_of
  of-degree c long every =
      subst (λ (n : ℕ). nat_abs (blossom (arguments p c) (net_of p)) ≤ 1024 ^ n * 4096) (length-map c _ ∙ long)
      (blossom-size (arguments p c) (every_map _ (λ a h. shared a h) c every) (net_of p) 4096 (λ i j. travels p.surface fine.travels _))

  literal : (t : Index) → numerator p t
      ≡ all (over_indices p.domain) p.outer (reached 0 0 t.i t.j (λ c. blossom (arguments p c) (net_of p)))
  unfolding numerator reached ◌⊗◌
  literal t =
      choices-all p.outer p.domain _
      ∙ all_under (over_indices p.domain) p.outer _ _ (λ c. rw (zero-add (total c).i, zero-add (total c).j))

  pub numerator-size : (t : Index) → degree t ≡ longest p → nat_abs (numerator p t) ≤ denominator p t * 4096
  unfolding denominator longest
  numerator-size t h =
      rw (mul_assoc (multinomial t) (1024 ^ p.outer) 4096, mul_comm (multinomial t), ← (ways-all (p.outer * p.domain) t h), literal t)
      (sum-size p.domain p.outer 0 0 t.i t.j (1024 ^ p.outer * 4096) (λ c. blossom (arguments p c) (net_of p)) of-degree)

  pub point-size : (t : Index) → degree t ≡ longest p → nat_abs (point p t) ≤ 4096
  unfolding point denominator
  point-size t h = nearest-size (numerator p t) (denominator p t) 4096 (denominator-some p t) (numerator-size t h)
