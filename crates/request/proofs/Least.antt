-- Laws of the least bad place, over any test: each loop that looks for one cites them. Assumes nothing.
use mathlib.Core.Path.{◌≡◌, refl, sym, ap, ◌∙◌}
use mathlib.Core.Bool.{Bool, true, false, cond}
use Prim.Native.Nat.{ℕ, zero, suc, ◌+◌, ◌≤◌, ◌<◌, zero-le, suc-le-suc}
use native.Mathlib.Nat.{le_of_suc-le-suc, not-suc-le-zero}
use native.Mathlib.Omega.{arith}
use borrow.Author.Count.{below_more}
use Rattle.request.specs.Refusal.{least}

-- where nothing before i is bad and i is, it is i
least_at : (n : ℕ) (bad : ℕ → Bool) (i : ℕ) → i < n → ((k : ℕ) → k < i → bad k ≡ false) → bad i ≡ true → least n bad ≡ i
unfolding least
least_at zero bad i l before here = absurd (not-suc-le-zero l)
least_at (suc n) bad zero l before here = rw here refl
least_at (suc n) bad (suc i) l before here =
    rw (before 0 (omega arith))
    (ap suc (least_at n (λ k. bad (suc k)) i (le_of_suc-le-suc l) (λ k m. before (suc k) (suc-le-suc m)) here))

-- where nothing below n is bad, it is n
pub least-none : (n : ℕ) (bad : ℕ → Bool) → ((k : ℕ) → k < n → bad k ≡ false) → least n bad ≡ n
unfolding least
least-none zero bad none = refl
least-none (suc n) bad none =
    rw (none 0 (omega arith)) (ap suc (least-none n (λ k. bad (suc k)) (λ k m. none (suc k) (suc-le-suc m))))

-- and back: nothing before it is bad
pub least-before : (n : ℕ) (bad : ℕ → Bool) (k : ℕ) → k < least n bad → bad k ≡ false
unfolding least
least-before zero bad k l = absurd (not-suc-le-zero l)
least-before (suc n) bad k l = go (bad zero) refl k l (least-before n (λ k. bad (suc k)))
  where
    go : (b : Bool) → bad zero ≡ b → (k : ℕ) → k < cond b zero (suc (least n (λ k. bad (suc k))))
        → ((k : ℕ) → k < least n (λ k. bad (suc k)) → bad (suc k) ≡ false) → bad k ≡ false
    go true e k m rest = absurd (not-suc-le-zero m)
    go false e zero m rest = e
    go false e (suc k) m rest = rest k (le_of_suc-le-suc m)

pub least-le : (n : ℕ) (bad : ℕ → Bool) → least n bad ≤ n
unfolding least
least-le zero bad = zero-le
least-le (suc n) bad = go (bad zero) (least-le n (λ k. bad (suc k)))
  where
    go : (b : Bool) → least n (λ k. bad (suc k)) ≤ n → cond b zero (suc (least n (λ k. bad (suc k)))) ≤ suc n
    go true rest = zero-le
    go false rest = suc-le-suc rest

-- a search that has passed k of n places, none of them bad: the invariant of each such loop
pub record Passed (n : ℕ) (bad : ℕ → Bool) (k : ℕ) : Type 0 where
  pub inside : k ≤ n
  pub none : (i : ℕ) → i < k → bad i ≡ false

module _ {n : ℕ} {bad : ℕ → Bool} {k : ℕ} where
  pub none_passed : k ≤ 0 → Passed n bad k
  none_passed z = record { inside = omega arith; none = λ i l. absurd (omega arith) }

  pub one_more : Passed n bad k → k < n → bad k ≡ false → Passed n bad (k + 1)
  one_more p l e = record { inside = omega arith; none = below_more (λ i. bad i ≡ false) k p.none e }

  -- the search ends at the first bad place, or past the last
  pub found : Passed n bad k → k < n → bad k ≡ true → k ≡ least n bad
  found p l e = sym (least_at n bad k l p.none e)

  pub not_found : Passed n bad k → n ≤ k → k ≡ least n bad
  not_found p l =
      let e : k ≡ n = omega (arith, p.inside) in
      e ∙ sym (least-none n bad (rw e at p.none))
