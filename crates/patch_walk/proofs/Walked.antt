-- A patch's literal sum is a walk over its terms: of a choice the keys add up to the key of its place, and no two places have the
-- same one. Assumes nothing.
use mathlib.Core.Path.{◌≡◌, refl, sym, ◌∙◌, ap, ap₂}
use mathlib.Core.Bool.{cond, ◌&&◌}
use mathlib.Core.List.{List, [], ◌∷◌, ◌++◌, map}
use Prim.Native.Nat.{ℕ, zero, suc, ◌+◌, ◌*◌, ◌≤◌}
use native.Mathlib.Nat.{add-zero, zero-add, suc-add, add-suc}
use native.Mathlib.Decide.{ℕ_discrete}
use native.Mathlib.Omega.{arith}
use lib.Dec.{eqb}
use lib.IntN.{ℤ, pos}
use borrow.Author.Tests.{eq-eqb, ne_eqb}
use Rattle.whole.specs.Sum.{sum_over}
use Rattle.whole.proofs.Ring.{◌⊕◌, ◌⊗◌, ⊕-zero, ⊕-assoc, zero-⊕, ⊗-assoc, one-⊗, pos-mul}
use Rattle.whole.proofs.Sums.{sum-zero, sum-suc, sum-cong}
use Rattle.net.specs.Net.{Net}
use Rattle.net.specs.Blossom.{step, blossom}
use Rattle.net.proofs.Evaluation.{all, all_under, all-linear}
use Rattle.net.proofs.Powers.{scale-cond}
use Rattle.net.specs.runs.Terms.{Term, Reading, over, chosen}
use Rattle.net.specs.runs.Walk.{walk}
use Rattle.net.specs.runs.Ride.{leaf}
use Rattle.net.proofs.runs.Runs.{over-cons, chosen-zero, chosen-suc}
use Rattle.net.proofs.runs.Walk.{walk-chosen}
use Rattle.patch_net.specs.Patch.{Patch, longest, Index, index, row, rows, indices, net_of}
use Rattle.patch_net.specs.Composed.{multinomial, over_indices, total, weight, arguments, numerator}
use Rattle.patch_net.proofs.Indices.{degree, indices-linear}
use Rattle.patch_net.proofs.Evaluated.{choices-on, choices-all}
use Rattle.patch_walk.specs.PatchTerms.{key_of, argument_of, patch_term, patch_terms}

-- ---- the sum over the list of the indices
over-append : {A : Type 0} (l m : List A) (f : A → ℤ) → over (l ++ m) f ≡ over l f ⊕ over m f
unfolding over
over-append [] m f = sym (zero-⊕ (over m f))
over-append (a ∷ l) m f =
    over-cons a (l ++ m) f ∙ ap (λ x. f a ⊕ x) (over-append l m f) ∙ sym (⊕-assoc (f a) (over l f) (over m f))
    ∙ ap (λ x. x ⊕ over m f) (sym (over-cons a l f))

over-map : {A B : Type 0} (g : A → B) (l : List A) (f : B → ℤ) → over (map g l) f ≡ over l (λ a. f (g a))
unfolding over
over-map g [] f = refl
over-map g (a ∷ l) f = over-cons (g a) (map g l) f ∙ ap (λ x. f (g a) ⊕ x) (over-map g l f) ∙ sym (over-cons a l (λ a. f (g a)))

over-one : {A : Type 0} (a : A) (f : A → ℤ) → over (a ∷ []) f ≡ f a
unfolding over
over-one a f = over-cons a [] f ∙ ⊕-zero (f a)

over-row : (i j n : ℕ) (f : Index → ℤ) → over (row i j n) f ≡ sum_over n (λ m k. f (index i (j + m) k))
unfolding row
over-row i j zero f = over-one (index i j 0) f ∙ ap (λ (x : ℕ). f (index i x 0)) (sym (add-zero j)) ∙ sym (sum-zero (λ m k. f (index i (j + m) k)))
over-row i j (suc n) f =
    over-cons (index i j (suc n)) (row i (suc j) n) f
    ∙ ap₂ ◌⊕◌ (ap (λ (x : ℕ). f (index i x (suc n))) (sym (add-zero j)))
    (over-row i (suc j) n f ∙ sum-cong n _ _ (λ m k. ap (λ (x : ℕ). f (index i x k)) (suc-add j m ∙ sym (add-suc j m))))
    ∙ sym (sum-suc n (λ m k. f (index i (j + m) k)))

-- the first row, as the sum over the rows has it
first-row : (i n : ℕ) (f : Index → ℤ) → over (row i 0 n) f ≡ sum_over n (λ j k. f (index (i + 0) j k))
first-row i n f = over-row i 0 n f ∙ sum-cong n _ _ (λ j k. ap₂ (λ (x y : ℕ). f (index x y k)) (sym (add-zero i)) (zero-add j))

over-rows : (i n : ℕ) (f : Index → ℤ) → over (rows i n) f ≡ sum_over n (λ e rest. sum_over rest (λ j k. f (index (i + e) j k)))
unfolding rows
over-rows i zero f = first-row i 0 f ∙ sym (sum-zero (λ e rest. sum_over rest (λ j k. f (index (i + e) j k))))
over-rows i (suc n) f =
    over-append (row i 0 (suc n)) (rows (suc i) n) f
    ∙ ap₂ ◌⊕◌ (first-row i (suc n) f)
    (over-rows (suc i) n f ∙ sum-cong n _ _ (λ e rest. sum-cong rest _ _ (λ j k. ap (λ (x : ℕ). f (index x j k)) (suc-add i e ∙ sym (add-suc i e)))))
    ∙ sym (sum-suc n (λ e rest. sum_over rest (λ j k. f (index (i + e) j k))))

over-indices : (N : ℕ) (f : Index → ℤ) → over (indices N) f ≡ over_indices N f
unfolding indices over_indices
over-indices N f = over-rows 0 N f ∙ sum-cong N _ _ (λ e rest. sum-cong rest _ _ (λ j k. ap (λ (x : ℕ). f (index x j k)) (zero-add e)))

module _ (p : Patch) where
  over-terms : (f : Term → ℤ) → over (patch_terms p) f ≡ over_indices p.domain (λ a. f (patch_term p a))
  unfolding patch_terms
  over-terms f = over-map (patch_term p) (indices p.domain) f ∙ over-indices p.domain (λ a. f (patch_term p a))

  -- one more argument
  chosen_more : (r : ℕ) (F : Reading) (s : ℕ) (q : Net)
      → chosen (patch_terms p) (suc r) F s q
      ≡ over_indices p.domain (λ a. pos (multinomial a) ⊗ chosen (patch_terms p) r F (s + key_of a) (step (argument_of p a) q))
  unfolding patch_term
  chosen_more r F s q = chosen-suc (patch_terms p) r F s q ∙ over-terms _

  -- ---- what one choice adds, where the keys before it were s
  unfoldable adds : ℕ → ℕ → Net → List Index → ℤ
  adds R s q choice = cond (eqb (s + key_of (total choice)) R) (pos (weight choice) ⊗ blossom (map (argument_of p) choice) q) (pos 0)

  adds_none : (R s : ℕ) (q : Net) → adds R s q [] ≡ leaf R s q
  unfolding adds total weight blossom leaf
  adds_none R s q = rw (add-zero s, one-⊗)

  adds-more : (R s : ℕ) (q : Net) (a : Index) (rest : List Index)
      → adds R s q (a ∷ rest) ≡ pos (multinomial a) ⊗ adds R (s + key_of a) (step (argument_of p a) q) rest
  unfolding adds total weight blossom
  adds-more R s q a rest =
      let keys : s + key_of a + key_of (total rest) ≡ s + key_of (index (a.i + (total rest).i) (a.j + (total rest).j) (a.k + (total rest).k)) = omega arith in
      sym
      (scale-cond (pos (multinomial a)) _ (eqb (s + key_of a + key_of (total rest)) R)
      ∙ rw (keys, pos-mul (multinomial a) (weight rest), ⊗-assoc))

  literal : (R r s : ℕ) (q : Net) → all (over_indices p.domain) r (adds R s q) ≡ chosen (patch_terms p) r (leaf R) s q
  unfolding all
  literal R zero s q = adds_none R s q ∙ sym (chosen-zero (patch_terms p) (leaf R) s q)
  literal R (suc r) s q =
      let sum = over_indices p.domain in
      (λ t. sum (λ a. (all_under sum r _ _ (adds-more R s q a) ∙ (all-linear sum (indices-linear p.domain) r).scale (pos (multinomial a)) _
      ∙ ap (λ x. pos (multinomial a) ⊗ x) (literal R r (s + key_of a) (step (argument_of p a) q))) t))
      ∙ sym (chosen_more r (leaf R) s q)

-- two keys are the same where both indices are, since neither j is above 9
digits : (I J i j : ℕ) (x : ℤ) → J ≤ 9 → j ≤ 9 → cond (eqb I i && eqb J j) x (pos 0) ≡ cond (eqb (10 * I + J) (10 * i + j)) x (pos 0)
digits I J i j x h l = go (ℕ_discrete I i) (ℕ_discrete J j)
  where
    go : Dec (I ≡ i) → Dec (J ≡ j) → cond (eqb I i && eqb J j) x (pos 0) ≡ cond (eqb (10 * I + J) (10 * i + j)) x (pos 0)
    go (yes a) (yes b) = rw (eq-eqb (10 * I + J) (10 * i + j) (omega arith), eq-eqb I i a, eq-eqb J j b)
    go (yes a) (no b) = rw (ne_eqb (10 * I + J) (10 * i + j) (λ e. b (omega arith)), eq-eqb I i a, ne_eqb J j b)
    go (no a) b = rw (ne_eqb (10 * I + J) (10 * i + j) (λ e. a (omega arith)), ne_eqb I i a)

-- the numerator at an index is the walk over the terms that gathers its key
pub numerator-walk : (p : Patch) (t : Index) → longest p ≤ 9 → degree t ≡ longest p
    → numerator p t ≡ walk (patch_terms p) p.outer p.outer (leaf (key_of t)) 0 (net_of p)
unfolding numerator arguments longest adds ◌⊗◌
numerator-walk p t few whole =
    choices-all p.outer p.domain _
    ∙ choices-on p.outer p.domain _ _ (λ c h.
    digits (total c).i (total c).j t.i t.j _ (omega arith) (omega arith)
    ∙ ap (λ (k : ℕ). cond (eqb k (key_of t)) (pos (weight c) ⊗ blossom (map (argument_of p) c) (net_of p)) (pos 0)) (sym (zero-add (key_of (total c)))))
    ∙ literal p (key_of t) p.outer 0 (net_of p)
    ∙ sym (walk-chosen (patch_terms p) p.outer (leaf (key_of t)) 0 (net_of p))
