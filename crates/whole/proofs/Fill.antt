-- A loop that fills an array from the front, one place a turn: what is written so far, and what still stands.
-- Assumes nothing.
use mathlib.Core.Path.{◌≡◌, refl, ◌∙◌}
use mathlib.Core.List.{List}
use Prim.Native.Nat.{ℕ, zero, suc, ◌+◌, ◌≤◌, ◌<◌}
use native.Mathlib.Omega.{arith}
use lib.IntN.{ℤ, pos}
use lib.ListN.{length, get_or, set, replicate}
use lib.Seq.{get_or-set_same, get_or-set_other}
use borrow.Author.Count.{below_more}

module _ (l : List ℤ) (k : ℕ) (v : ℤ) (f : ℕ → ℤ) where
  pub fill_more : k < length l → ((i : ℕ) → i < k → get_or l i (pos 0) ≡ f i) → v ≡ f k
      → (i : ℕ) → i < k + 1 → get_or (set l k v) i (pos 0) ≡ f i
  fill_more m front here =
      below_more (λ i. get_or (set l k v) i (pos 0) ≡ f i) k
      (λ i n. get_or-set_other l k i v (pos 0) (omega arith) ∙ front i n)
      (get_or-set_same l k v (pos 0) m ∙ here)

  pub fill-rest : ((i : ℕ) → k ≤ i → get_or l i (pos 0) ≡ f i) → (i : ℕ) → k + 1 ≤ i → get_or (set l k v) i (pos 0) ≡ f i
  fill-rest back i n = get_or-set_other l k i v (pos 0) (omega arith) ∙ back i (omega arith)

-- an array of zeros, read anywhere
pub zeros : (n i : ℕ) → get_or (replicate n (pos 0)) i (pos 0) ≡ pos 0
zeros zero i = refl
zeros (suc n) zero = refl
zeros (suc n) (suc i) = zeros n i
