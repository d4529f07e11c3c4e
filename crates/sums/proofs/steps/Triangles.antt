-- A triangle: where the neighbours of (i, j) stand, and that the numbers of the lower net are those that an argument makes.
-- Assumes nothing.
use mathlib.Core.Path.{◌≡◌, refl, ◌∙◌}
use mathlib.Core.List.{List}
use Prim.Native.Nat.{ℕ, zero, suc, ◌+◌, ◌-◌, ◌≤◌, ◌<◌}
use native.Mathlib.Nat.{suc-add, add-suc, not-suc-le-zero, le_of_suc-le-suc}
use native.Mathlib.Omega.{arith}
use lib.IntN.{ℤ, pos}
use lib.ListN.{get_or}
use borrow.Author.Tests.{lt-ltb, le-ltb}
use Rattle.net.specs.Blossom.{within, step}
use Rattle.sums.specs.steps.Layout.{before, spot, held, diagonal, further, row_of, column_of}
use Rattle.sums.specs.steps.Stepped.{among, Lowered}
use Rattle.sums.proofs.steps.Mixing.{among-most}
use Rattle.sums.proofs.steps.Fronts.{front, in-front, front-small}

-- place i of diagonal s is on diagonal s
diagonal-of : (s i : ℕ) → s ≤ 4 → i ≤ s → diagonal (before s + i) ≡ s
unfolding diagonal before
diagonal-of zero i p q = rw (lt-ltb (0 + i) 1 (omega arith))
diagonal-of (suc zero) i p q = rw (le-ltb (1 + i) 1 (omega arith), lt-ltb (1 + i) 3 (omega arith))
diagonal-of (suc (suc zero)) i p q = rw (le-ltb (3 + i) 1 (omega arith), le-ltb (3 + i) 3 (omega arith), lt-ltb (3 + i) 6 (omega arith))
diagonal-of (suc (suc (suc zero))) i p q =
    rw (le-ltb (6 + i) 1 (omega arith), le-ltb (6 + i) 3 (omega arith), le-ltb (6 + i) 6 (omega arith), lt-ltb (6 + i) 10 (omega arith))
diagonal-of (suc (suc (suc (suc zero)))) i p q =
    rw (le-ltb (10 + i) 1 (omega arith), le-ltb (10 + i) 3 (omega arith), le-ltb (10 + i) 6 (omega arith), le-ltb (10 + i) 10 (omega arith))
diagonal-of (suc (suc (suc (suc (suc s))))) i p q = absurd (omega arith)

before-mono : (s d : ℕ) → s ≤ d → before s ≤ before d
unfolding before
before-mono zero d p = omega arith
before-mono (suc s) zero p = absurd (not-suc-le-zero p)
before-mono (suc s) (suc d) p = omega (arith, before-mono s d (le_of_suc-le-suc p))

pub spot-low : (i j d : ℕ) → i + j < d → spot i j < before d
unfolding spot before
spot-low i j d l = omega (arith, before-mono (suc (i + j)) d l)

next-i : (i j : ℕ) → spot (suc i) j ≡ spot i j + (i + j) + 2
unfolding spot before
next-i i j = rw (suc-add i j) (omega arith)

next-j : (i j : ℕ) → spot i (suc j) ≡ spot i j + (i + j) + 1
unfolding spot before
next-j i j = rw (add-suc i j) (omega arith)

-- (i, j+1) and (i+1, j) stand where `further` says
further-of : (i j : ℕ) → i + j ≤ 4 → further (spot i j) ≡ spot i (suc j)
unfolding further spot
further-of i j m = rw (diagonal-of (i + j) i m (omega arith), next-j i j) refl

pub tri-step : (p q : List ℤ) (x y d : ℕ) → d ≤ 4 → Lowered p x y d q
    → (i j : ℕ) → i + j < d → held q i j ≡ step (within (pos x) (pos y) (pos (1024 - x - y))) (held p) i j
unfolding held step among
tri-step p q x y d few h i j l =
    let f : further (spot i j) ≡ spot i (suc j) = further-of i j (omega arith) in
    let g : spot i (suc j) + 1 ≡ spot (suc i) j = omega (arith, next-i i j, next-j i j) in
    h.each (spot i j) (spot-low i j d l) ∙ rw (f, g)

on-spot : (i j : ℕ) → i + j ≤ 4 → diagonal (spot i j) ≡ i + j
unfolding spot
on-spot i j m = diagonal-of (i + j) i m (omega arith)

-- i and j of a place
pub row-of : (i j : ℕ) → i + j ≤ 4 → row_of (spot i j) ≡ i
unfolding row_of spot
row-of i j m = rw (diagonal-of (i + j) i m (omega arith)) (omega arith)

pub column-of : (i j : ℕ) → i + j ≤ 4 → column_of (spot i j) ≡ j
unfolding column_of
column-of i j m = rw (row-of i j m, on-spot i j m) (omega arith)

abbrev pub tri_of : List ℤ → ℕ → ℕ → ℕ → ℤ
tri_of p x y k = among x y (get_or p k (pos 0)) (get_or p (further k) (pos 0)) (get_or p (further k + 1) (pos 0))

pub front-lowered : (p : List ℤ) (x y d m : ℕ) → x + y ≤ 1024 → Lowered p x y d (front (before d) m (tri_of p x y))
front-lowered p x y d m h = record {
  each = in-front (before d) m (tri_of p x y);
  most = λ bound small. front-small (before d) m (tri_of p x y) _ (λ k. among-most x y _ _ _ bound h (small.most k) (small.most (further k))
      (small.most (further k + 1)));
}
