-- 01's literal sum (rule Composed net) is a walk over the ride's terms: one group of arguments in forms 1 and 3; in form 2 the u
-- arguments, and where they are used up the v arguments, with the run begun anew. Assumes nothing.
use mathlib.Core.Path.{◌≡◌, sym, ◌∙◌, ap}
use mathlib.Core.List.{List, [], ◌++◌, map}
use Prim.Native.Nat.{ℕ, zero, suc, ◌+◌}
use native.Mathlib.Nat.{zero-add, suc-add}
use lib.IntN.{ℤ, pos}
use lib.ListN.{take, drop}
use Rattle.whole.specs.Sum.{sum_to}
use Rattle.whole.specs.Choose.{choose}
use Rattle.whole.proofs.Ring.{◌⊕◌, ◌⊗◌, ⊕-zero}
use Rattle.whole.proofs.Sums.{sum-zero, sum-suc}
use Rattle.request.specs.declared.Head.{Head}
use Rattle.request.specs.Head.{degree}
use Rattle.request.specs.Request.{Request}
use Rattle.request.proofs.Forms.{at-curve, at-tensor, at-triangle}
use Rattle.net.specs.Net.{Net, net_of, path_number}
use Rattle.net.specs.Blossom.{Argument, along_u, along_v, within, step, blossom}
use Rattle.net.specs.Composed.{arguments, numerator}
use Rattle.net.proofs.Literal.{sum_at, sum-none, sum_more, numerator-is}
use Rattle.net.specs.runs.Terms.{Reading, over, chosen}
use Rattle.net.specs.runs.Walk.{walk}
use Rattle.net.specs.runs.Ride.{leaf, below, path_term, path_terms}
use Rattle.net.proofs.runs.Runs.{over-cons, chosen-zero, chosen-suc}
use Rattle.net.proofs.runs.Walk.{walk-chosen}

pub over_below : {A : Type 0} (n : ℕ) (g : ℕ → A) (f : A → ℤ) → over (below (suc n) g) f ≡ sum_to n (λ c. f (g c))
unfolding over below sum_to
over_below zero g f = over-cons (g 0) [] f ∙ ⊕-zero (f (g 0)) ∙ sym (sum-zero (λ i k. f (g i)))
over_below (suc n) g f =
    over-cons (g 0) (below (suc n) (λ c. g (suc c))) f ∙ ap (λ x. f (g 0) ⊕ x) (over_below n (λ c. g (suc c)) f) ∙ sym (sum-suc n (λ i k. f (g i)))

-- one more argument of a path's
chosen-path : (N : ℕ) (read : ℕ → Argument) (r : ℕ) (F : Reading) (s : ℕ) (p : Net)
    → chosen (path_terms N read) (suc r) F s p ≡ sum_to N (λ c. pos (choose N c) ⊗ chosen (path_terms N read) r F (s + c) (step (read c) p))
unfolding path_terms path_term
chosen-path N read r F s p = chosen-suc (path_terms N read) r F s p ∙ over_below N (path_term N read) _

-- ---- one group
one_none : (N R s : ℕ) (g : ℕ → Argument) (p : Net) → sum_at N 0 s R (λ c. blossom (map g c) p) ≡ leaf R s p
unfolding blossom leaf
one_none N R s g p = sum-none N s R (λ c. blossom (map g c) p)

one_more : (N r R s : ℕ) (g : ℕ → Argument) (p : Net)
    → sum_at N (suc r) s R (λ c. blossom (map g c) p) ≡ sum_to N (λ c. pos (choose N c) ⊗ sum_at N r (s + c) R (λ rest. blossom (map g rest) (step (g c) p)))
unfolding blossom
one_more N r R s g p = sum_more N r s R (λ c. blossom (map g c) p)

one-chosen : (N R : ℕ) (g : ℕ → Argument) (r s : ℕ) (p : Net) → sum_at N r s R (λ c. blossom (map g c) p) ≡ chosen (path_terms N g) r (leaf R) s p
one-chosen N R g zero s p = one_none N R s g p ∙ sym (chosen-zero (path_terms N g) (leaf R) s p)
one-chosen N R g (suc r) s p =
    one_more N r R s g p
    ∙ (λ t. sum_to N (λ c. pos (choose N c) ⊗ one-chosen N R g r (s + c) (step (g c) p) t))
    ∙ sym (chosen-path N g r (leaf R) s p)

one-walk : (N R : ℕ) (g : ℕ → Argument) (r : ℕ) (p : Net) → sum_at N r 0 R (λ c. blossom (map g c) p) ≡ walk (path_terms N g) r r (leaf R) 0 p
one-walk N R g r p = one-chosen N R g r 0 p ∙ sym (walk-chosen (path_terms N g) r (leaf R) 0 p)

-- ---- two groups
module _ (N R : ℕ) (u v : ℕ → Argument) (m : ℕ) where
  -- the arguments of a choice, l of them u arguments
  abbrev both : ℕ → List ℕ → List Argument
  both l c = map u (take l c) ++ map v (drop l c)

  both-more : (l s : ℕ) (p : Net)
      → sum_at N (suc (l + m)) s R (λ c. blossom (both (suc l) c) p)
      ≡ sum_to N (λ c. pos (choose N c) ⊗ sum_at N (l + m) (s + c) R (λ rest. blossom (both l rest) (step (u c) p)))
  unfolding blossom
  both-more l s p = sum_more N (l + m) s R (λ c. blossom (both (suc l) c) p)

  abbrev later : Reading
  later = chosen (path_terms N v) m (leaf R)

  both-chosen : (l s : ℕ) (p : Net) → sum_at N (l + m) s R (λ c. blossom (both l c) p) ≡ chosen (path_terms N u) l later s p
  both-chosen zero s p = rw (zero-add m) (one-chosen N R v m s p ∙ sym (chosen-zero (path_terms N u) later s p))
  both-chosen (suc l) s p =
      rw (suc-add l m) (both-more l s p)
      ∙ (λ t. sum_to N (λ c. pos (choose N c) ⊗ both-chosen l (s + c) (step (u c) p) t))
      ∙ sym (chosen-path N u l later s p)

  both-walk : (l : ℕ) (p : Net) → sum_at N (l + m) 0 R (λ c. blossom (both l c) p) ≡ walk (path_terms N u) l l (walk (path_terms N v) m m (leaf R)) 0 p
  both-walk l p =
      both-chosen l 0 p ∙ sym (walk-chosen (path_terms N u) l later 0 p)
      ∙ (λ t. walk (path_terms N u) l l (λ s p. sym (walk-chosen (path_terms N v) m (leaf R) s p) t) 0 p)

-- ---- 01's numerator (rule Composed net), form by form
module _ (rq : Request) (R : ℕ) where
  abbrev h : Head
  h = rq.head

  -- what form 1, 2 or 3 makes of the literal sum
  of-form : (r : ℕ) (f : List ℕ → List Argument) → degree h ≡ r → ((c : List ℕ) → arguments rq c ≡ f c)
      → numerator rq R ≡ sum_at h.N r 0 R (λ c. blossom (f c) (net_of rq))
  of-form r f e a =
      numerator-is rq R ∙ ap (λ n. sum_at h.N n 0 R (λ c. blossom (arguments rq c) (net_of rq))) e
      ∙ (λ t. sum_at h.N r 0 R (λ c. blossom (a c t) (net_of rq)))

  pub curve-walk : h.form ≡ 1 → numerator rq R ≡ walk (path_terms h.N (λ c. along_u (path_number rq c 0))) h.first h.first (leaf R) 0 (net_of rq)
  unfolding degree arguments
  curve-walk f = of-form h.first _ (at-curve h _ _ _ f) (λ c. at-curve h _ _ _ f) ∙ one-walk h.N R _ h.first (net_of rq)

  pub tensor-walk : h.form ≡ 2
      → numerator rq R
      ≡ walk (path_terms h.N (λ c. along_u (path_number rq c 0))) h.first h.first
      (walk (path_terms h.N (λ c. along_v (path_number rq c 1))) h.second h.second (leaf R)) 0 (net_of rq)
  unfolding degree arguments
  tensor-walk f =
      of-form (h.first + h.second) _ (at-tensor h _ _ _ f) (λ c. at-tensor h _ _ _ f)
      ∙ both-walk h.N R (λ c. along_u (path_number rq c 0)) (λ c. along_v (path_number rq c 1)) h.second h.first (net_of rq)

  pub triangle-walk : (h.form ≡ 1 → ⊥) → (h.form ≡ 2 → ⊥)
      → numerator rq R ≡ walk (path_terms h.N (λ c. within (path_number rq c 0) (path_number rq c 1) (path_number rq c 2))) h.first h.first
      (leaf R) 0 (net_of rq)
  unfolding degree arguments
  triangle-walk no1 no2 = of-form h.first _ (at-triangle h _ _ _ no1 no2) (λ c. at-triangle h _ _ _ no1 no2) ∙ one-walk h.N R _ h.first (net_of rq)
