-- "Each is the blossom value without its binomial": 01's numerator at R (rule Composed net) is binomial(L, R) times the one
-- blossom value at m − R times the first path number and R times the second, since all choices with the sum R take the same
-- arguments in another order. Assumes nothing.
use mathlib.Core.Path.{◌≡◌, refl, sym, ap, ◌∙◌}
use mathlib.Core.List.{List, map}
use Prim.Native.Nat.{ℕ, zero, suc, ◌+◌, ◌-◌, ◌*◌, ◌/◌, ◌≤◌, ◌<◌}
use native.Mathlib.Nat.{le_of_suc-le-suc, mul-one, add-zero, zero-add, mul_comm, mul-pos, mul-div_cancel, zero-lt-suc}
use native.Mathlib.Decide.{dec_lt}
use native.Mathlib.Omega.{arith}
use lib.IntN.{ℤ, pos, negsuc, neg_ℤ, ◌*ℤ◌}
use lib.Signed.{quot_z}
use borrow.Author.Tests.{lt-ltb, le-ltb, eq-eqb, ne_eqb}
use Rattle.whole.specs.Sum.{sum_over, sum_to}
use Rattle.whole.specs.Choose.{choose}
use Rattle.whole.proofs.Ring.{◌⊕◌, ◌⊗◌, pos-add, ⊕-zero, ⊕-comm, one-⊗, zero-⊗, ⊕-⊗}
use Rattle.whole.proofs.Binomial.{choose-zero, choose-pascal, choose-above}
use Rattle.request.specs.Head.{by_form, degree, longest}
use Rattle.net.specs.Net.{Net, net_of, place_of, path_number}
use Rattle.net.specs.Blossom.{Argument, along_u, step, blossom}
use Rattle.net.specs.Composed.{arguments, numerator}
use Rattle.net.proofs.Literal.{sum_at, sum-none, sum_more, numerator-is}
use Rattle.net.proofs.Symmetry.{exchange, any_order}
use Rattle.net.proofs.Rounded.{choose-some}
use Rattle.part.specs.declared.Part.{Part}
use Rattle.part.specs.declared.Part.TheVariants.{Stay, Line}
use Rattle.part.specs.Part.{named, path_degree, head_of, request_of}
use Rattle.part.specs.Contract.{divided}
use Rattle.part.specs.Choice.{choice_of}

-- ---- over any arguments, one for each point
module _ (A : ℕ → Argument) where
  -- the value of l arguments of which the last R take point 1
  unfoldable value : ℕ → ℕ → Net → ℤ
  value l R p = blossom (map A (choice_of l R)) p

  -- point 0 is taken while more than R arguments are left
  takes_first : (l R : ℕ) (p : Net) → R ≤ l → value (suc l) R p ≡ value l R (step (A 0) p)
  unfolding value blossom choice_of
  takes_first l R p h = rw (lt-ltb R (suc l) (omega arith))

  takes-second : (l R : ℕ) (p : Net) → l < R → value (suc l) R p ≡ value l R (step (A 1) p)
  unfolding value blossom choice_of
  takes-second l R p h = rw (le-ltb R (suc l) (omega arith))

  -- only point 1 is left
  all-second : (l R S : ℕ) (p : Net) → l ≤ R → l ≤ S → value l R p ≡ value l S p
  unfolding value blossom choice_of
  all-second zero R S p h k = refl
  all-second (suc l) R S p h k =
      takes-second l R p (omega arith) ∙ all-second l R S (step (A 1) p) (omega arith) (omega arith) ∙ sym (takes-second l S p (omega arith))

  swapped : (l R : ℕ) (p : Net) → value l R (step (A 1) (step (A 0) p)) ≡ value l R (step (A 0) (step (A 1) p))
  unfolding value blossom
  swapped l R p = any_order (exchange (A 0) (A 1) (map A (choice_of l R))) p

  -- point 1 may as well be taken first
  second-first : (l R : ℕ) (p : Net) → R ≤ l → value (suc l) (suc R) p ≡ value l R (step (A 1) p)
  second-first zero R p h = takes-second zero (suc R) p (omega arith) ∙ all-second zero (suc R) R _ (omega arith) (omega arith)
  second-first (suc l) R p h = go (dec_lt R (suc l)) (λ less. second-first l R (step (A 0) p) less)
    where
      go : Dec (R < suc l) → (R ≤ l → value (suc l) (suc R) (step (A 0) p) ≡ value l R (step (A 1) (step (A 0) p)))
          → value (suc (suc l)) (suc R) p ≡ value (suc l) R (step (A 1) p)
      go (yes less) rest =
          takes_first (suc l) (suc R) p less
          ∙ rest (omega arith)
          ∙ swapped l R p
          ∙ sym (takes_first l R (step (A 1) p) (omega arith))
      go (no not-less) rest = takes-second (suc l) (suc R) p (omega arith) ∙ all-second (suc l) (suc R) R _ (omega arith) (omega arith)

  -- the sum over all choices of l more, each of a point 0 to N
  unfoldable sum : ℕ → ℕ → ℕ → ℕ → Net → ℤ
  sum N l s R p = sum_at N l s R (λ choice. blossom (map A choice) p)

  -- a stay: there is one choice
  one : (l : ℕ) (p : Net) → sum 0 (suc l) 0 0 p ≡ sum 0 l 0 0 (step (A 0) p)
  unfolding sum blossom sum_to sum_over choose
  one l p = sum_more 0 l 0 0 (λ choice. blossom (map A choice) p) ∙ one-⊗ _

  stay-sum : (l : ℕ) (p : Net) → sum 0 l 0 0 p ≡ value l 0 p
  unfolding sum value blossom choice_of
  stay-sum zero p = sum-none 0 0 0 (λ choice. blossom (map A choice) p)
  stay-sum (suc l) p = one l p ∙ stay-sum l (step (A 0) p) ∙ sym (takes_first l 0 p (omega arith))

  -- a line: either point
  two : (l s R : ℕ) (p : Net) → sum 1 (suc l) s R p ≡ sum 1 l s R (step (A 0) p) ⊕ sum 1 l (s + 1) R (step (A 1) p)
  unfolding sum blossom sum_to sum_over choose ◌⊕◌
  two l s R p =
      sum_more 1 l s R (λ choice. blossom (map A choice) p)
      ∙ (λ i. one-⊗ (sum_at 1 l (add-zero s i) R (λ rest. blossom (map A rest) (step (A 0) p))) i
      ⊕ one-⊗ (sum_at 1 l (s + 1) R (λ rest. blossom (map A rest) (step (A 1) p))) i)

  -- a sum that is passed already, and one that cannot be reached any more
  passed : (l s R : ℕ) (p : Net) → R < s → sum 1 l s R p ≡ pos 0
  unfolding sum
  passed zero s R p h = sum-none 1 s R (λ choice. blossom (map A choice) p) ∙ rw (ne_eqb s R (omega arith))
  passed (suc l) s R p h =
      two l s R p
      ∙ (λ i. passed l s R (step (A 0) p) h i ⊕ passed l (s + 1) R (step (A 1) p) (omega arith) i)
      ∙ ⊕-zero (pos 0)

  out-of-reach : (l s R : ℕ) (p : Net) → s + l < R → sum 1 l s R p ≡ pos 0
  unfolding sum
  out-of-reach zero s R p h = sum-none 1 s R (λ choice. blossom (map A choice) p) ∙ rw (ne_eqb s R (omega arith))
  out-of-reach (suc l) s R p h =
      two l s R p
      ∙ (λ i. out-of-reach l s R (step (A 0) p) (omega arith) i ⊕ out-of-reach l (s + 1) R (step (A 1) p) (omega arith) i)
      ∙ ⊕-zero (pos 0)

  start : (s R : ℕ) (p : Net) → R ≡ 0 → sum 1 zero s (s + R) p ≡ pos (choose zero R) ⊗ value zero R p
  unfolding sum value blossom choice_of choose
  start s R p e =
      rw e (sum-none 1 s (s + 0) (λ choice. blossom (map A choice) p) ∙ rw (eq-eqb s (s + 0) (omega arith)) (sym (one-⊗ (p 0 0))))

  -- what point 0 adds, and what point 1
  by_first : (l s R : ℕ) (p : Net) → Dec (R < l)
      → (suc R ≤ l → sum 1 l s (s + suc R) (step (A 0) p) ≡ pos (choose l (suc R)) ⊗ value l (suc R) (step (A 0) p))
      → sum 1 l s (s + suc R) (step (A 0) p) ≡ pos (choose l (suc R)) ⊗ value (suc l) (suc R) p
  by_first l s R p (yes less) rest = rest less ∙ ap (λ v. pos (choose l (suc R)) ⊗ v) (sym (takes_first l (suc R) p less))
  by_first l s R p (no not-less) rest =
      out-of-reach l s (s + suc R) (step (A 0) p) (omega arith)
      ∙ sym (zero-⊗ (value (suc l) (suc R) p))
      ∙ ap (λ n. pos n ⊗ value (suc l) (suc R) p) (sym (choose-above l (suc R) (omega arith)))

  by-second : (l s R : ℕ) (p : Net) → R ≤ l → sum 1 l (s + 1) (s + 1 + R) (step (A 1) p) ≡ pos (choose l R) ⊗ value l R (step (A 1) p)
      → sum 1 l (s + 1) (s + suc R) (step (A 1) p) ≡ pos (choose l R) ⊗ value (suc l) (suc R) p
  by-second l s R p h rest =
      let moved : s + suc R ≡ s + 1 + R = omega arith in
      ap (λ n. sum 1 l (s + 1) n (step (A 1) p)) moved ∙ rest ∙ ap (λ v. pos (choose l R) ⊗ v) (sym (second-first l R p h))

  line-sum : (l s R : ℕ) (p : Net) → R ≤ l → sum 1 l s (s + R) p ≡ pos (choose l R) ⊗ value l R p
  line-sum zero s R p h = start s R p (omega arith)
  line-sum (suc l) s zero p h =
      two l s (s + 0) p
      ∙ (λ i. line-sum l s 0 (step (A 0) p) (omega arith) i ⊕ passed l (s + 1) (s + 0) (step (A 1) p) (omega arith) i)
      ∙ ⊕-zero _
      ∙ (λ i. pos ((choose-zero l ∙ sym (choose-zero (suc l))) i) ⊗ sym (takes_first l 0 p (omega arith)) i)
  line-sum (suc l) s (suc R) p h =
      let v = value (suc l) (suc R) p in
      let k : R ≤ l = le_of_suc-le-suc h in
      two l s (s + suc R) p
      ∙ (λ i. by_first l s R p (dec_lt R l) (λ less. line-sum l s (suc R) (step (A 0) p) less) i
      ⊕ by-second l s R p k (line-sum l (s + 1) R (step (A 1) p) k) i)
      ∙ sym (⊕-⊗ (pos (choose l (suc R))) (pos (choose l R)) v)
      ∙ ap (λ c. c ⊗ v) (⊕-comm (pos (choose l (suc R))) (pos (choose l R)) ∙ sym (pos-add (choose l R) (choose l (suc R))) ∙ ap pos (sym (choose-pascal l R)))

-- ---- in 01's own words (rule Composed net): of a part's request
module _ (m : ℕ) (surface : List ℤ) where
  -- "the numerator is binomial(L, R) times one blossom value"
  pub one_value : (part : Part) (R : ℕ) → R ≤ longest (head_of m part)
      → numerator (request_of m surface part) R
      ≡ pos (choose (longest (head_of m part)) R) *ℤ blossom (arguments (request_of m surface part) (choice_of m R)) (net_of (request_of m surface part))
  unfolding request_of head_of named path_degree longest degree by_form arguments net_of place_of value sum choose ◌⊗◌
  one_value (Stay u) R h =
      let rq = request_of m surface (Stay u) in
      let A : ℕ → Argument = λ c. along_u (path_number rq c 0) in
      let zero_is : R ≡ 0 = none R h in
      rw zero_is (numerator-is rq 0 ∙ stay-sum A m (net_of rq) ∙ sym (one-⊗ (value A m 0 (net_of rq))))
    where
      none : (R : ℕ) → R ≤ m * 0 → R ≡ 0
      none R h = omega arith
  one_value (Line u v) R h =
      let rq = request_of m surface (Line u v) in
      let A : ℕ → Argument = λ c. along_u (path_number rq c 0) in
      rw (mul-one m)
      (numerator-is rq R ∙ ap (λ n. sum A 1 m 0 n (net_of rq)) (sym (zero-add R)) ∙ line-sum A m 0 R (net_of rq) (rw (mul-one m) at h))

  -- so the division is exact, and its quotient is that value
  quotient : (c : ℕ) (z : ℤ) → 0 < c → quot_z (pos c *ℤ z) (pos c) ≡ z
  quotient zero z h = absurd (omega arith)
  quotient (suc c) (pos a) h = ap (λ n. pos (n / suc c)) (mul_comm (suc c) a) ∙ ap pos (mul-div_cancel a h)
  quotient (suc c) (negsuc a) h = below (suc c * suc a) (mul_comm (suc c) (suc a))
    where
      below : (n : ℕ) → n ≡ suc a * suc c → quot_z (neg_ℤ (pos n)) (pos (suc c)) ≡ negsuc a
      below zero e = let some : 0 < suc a * suc c = mul-pos (zero-lt-suc a) (zero-lt-suc c) in absurd (omega arith)
      below (suc n) e = ap (λ k. neg_ℤ (pos (k / suc c))) e ∙ ap (λ k. neg_ℤ (pos k)) (mul-div_cancel (suc a) h)

  pub divided-blossom : (part : Part) (R : ℕ) → R ≤ longest (head_of m part)
      → divided (request_of m surface part) R ≡ blossom (arguments (request_of m surface part) (choice_of m R)) (net_of (request_of m surface part))
  unfolding divided request_of
  divided-blossom part R h =
      let L = longest (head_of m part) in
      let e : R + (L - R) ≡ L = omega arith in
      let some = rw e at (choose-some R (L - R)) in
      ap (λ z. quot_z z (pos (choose L R))) (one_value part R h) ∙ quotient (choose L R) _ some
