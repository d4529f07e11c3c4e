-- What the array holds when a surface is loaded, and which of its numbers are read. Assumes nothing.
use mathlib.Core.Path.{◌≡◌, refl, ◌∙◌, ap}
use mathlib.Core.List.{List, [], ◌∷◌}
use Prim.Native.Nat.{ℕ, zero, suc, ◌+◌, ◌*◌, ◌-◌, ◌≤◌, ◌<◌}
use native.Mathlib.Omega.{arith}
use lib.IntN.{ℤ, pos}
use lib.ListN.{length, get_or}
use Rattle.request.specs.Refusal.{value_place}
use Rattle.request.proofs.Bounds.{travels}
use Rattle.net.specs.Net.{row_start}
use Rattle.sums.specs.steps.Layout.{boxed, before, spot, held, diagonal, row_of, column_of}
use Rattle.sums.proofs.steps.Fronts.{front, in-front, front-small}
use Rattle.sums.proofs.steps.Triangles.{spot-low, row-of, column-of}
use Rattle.sums.proofs.gather.Boxes.{Boxed}
use Rattle.sums.specs.Loaded.{read_three, stacked, loaded_at, LoadedBox, LoadedTriangle}

-- ---- a rectangle
pub box-loaded : (surface : List ℤ) → value_place surface ≡ length surface → LoadedBox surface (front 9 6 (λ k. get_or surface k (pos 0)))
box-loaded surface good = record {
  each = in-front 9 6 (λ k. get_or surface k (pos 0));
  small = front-small 9 6 (λ k. get_or surface k (pos 0)) 4096 (travels surface good);
}

-- no more than nine numbers are read
box-low : (second r i j : ℕ) → r ≤ 4 → i ≤ r - second → j ≤ second → j ≤ r → i * (second + 1) + j < 9
box-low zero r i j few a b d = omega arith
box-low (suc zero) r i j few a b d = omega arith
box-low (suc (suc zero)) r i j few a b d = omega arith
box-low (suc (suc (suc zero))) r i j few a b d = omega arith
box-low (suc (suc (suc (suc n)))) r i j few a b d =
    let z : i ≡ 0 = omega arith in
    rw z (omega arith)

pub box-net : (surface net : List ℤ) (second r : ℕ) → r ≤ 4 → LoadedBox surface net → Boxed second r (boxed (second + 1) net) (boxed (second + 1) surface)
unfolding boxed
box-net surface net second r few loaded i j a b d = loaded.each (i * (second + 1) + j) (box-low second r i j few a b d)

-- where one argument is left, two are
pub two-net : (surface net : List ℤ) (second : ℕ) → ((k : ℕ) → k < 2 → get_or net k (pos 0) ≡ get_or surface k (pos 0))
    → Boxed second 1 (boxed (second + 1) net) (boxed (second + 1) surface)
unfolding boxed
two-net surface net second each i j a b d = each (i * (second + 1) + j) (low second i j a b d)
  where
    low : (second i j : ℕ) → i ≤ 1 - second → j ≤ second → j ≤ 1 → i * (second + 1) + j < 2
    low zero i j a b d = omega arith
    low (suc n) i j a b d =
        let z : i ≡ 0 = omega arith in
        rw z (omega arith)

-- ---- a triangle
-- where the control value of place k stands
abbrev standing : ℕ → ℕ → ℕ
standing n k = row_start n (row_of k) + column_of k

from_place : (n : ℕ) (surface : List ℤ) (k a : ℕ) → a ≡ standing n k → get_or surface a (pos 0) ≡ loaded_at n surface k
unfolding loaded_at
from_place n surface k a e = ap (λ a. get_or surface a (pos 0)) e

-- place k and the two after it
abbrev three_at : ℕ → List ℤ → ℕ → List ℤ
three_at n surface k = loaded_at n surface k ∷ loaded_at n surface (k + 1) ∷ loaded_at n surface (k + 2) ∷ []

from-three : (n : ℕ) (surface : List ℤ) (k a b c : ℕ) → a ≡ standing n k → b ≡ standing n (k + 1) → c ≡ standing n (k + 2)
    → read_three surface a b c ≡ three_at n surface k
from-three n surface k a b c d e f = rw (from_place n surface k a d, from_place n surface (k + 1) b e, from_place n surface (k + 2) c f)

pub first_three : (n : ℕ) (surface : List ℤ) → read_three surface 0 1 (n + 1) ≡ three_at n surface 0
unfolding row_start row_of column_of diagonal before
first_three n surface = from-three n surface 0 0 1 (n + 1) (omega arith) (omega arith) (omega arith)

pub next-three : (n : ℕ) (surface : List ℤ) → 1 ≤ n → read_three surface 2 (n + 2) (2 * n + 1) ≡ three_at n surface 3
unfolding row_start row_of column_of diagonal before
next-three n surface h = from-three n surface 3 2 (n + 2) (2 * n + 1) (omega arith) (omega arith) (omega arith)

pub third-three : (n : ℕ) (surface : List ℤ) → 2 ≤ n → read_three surface 3 (n + 3) (2 * n + 2) ≡ three_at n surface 6
unfolding row_start row_of column_of diagonal before
third-three n surface h = from-three n surface 6 3 (n + 3) (2 * n + 2) (omega arith) (omega arith) (omega arith)

pub tenth : (n : ℕ) (surface : List ℤ) → 2 ≤ n → get_or surface (3 * n) (pos 0) ≡ loaded_at n surface 9
unfolding row_start row_of column_of diagonal before
tenth n surface h = from_place n surface 9 (3 * n) (omega arith)

-- of degree 4
pub fourth-three : (n : ℕ) (surface : List ℤ) → n ≡ 4 → read_three surface (3 * n) 4 8 ≡ three_at n surface 9
unfolding row_start row_of column_of diagonal before
fourth-three n surface h = from-three n surface 9 (3 * n) 4 8 (omega arith) (omega arith) (omega arith)

pub last-three : (n : ℕ) (surface : List ℤ) → n ≡ 4 → read_three surface 11 13 14 ≡ three_at n surface 12
unfolding row_start row_of column_of diagonal before
last-three n surface h = from-three n surface 12 11 13 14 (omega arith) (omega arith) (omega arith)

pub triangle-loaded : (surface : List ℤ) (n count m : ℕ) → value_place surface ≡ length surface → n ≤ 4 → count ≡ before (suc n)
    → LoadedTriangle surface n (front count m (loaded_at n surface))
unfolding held stacked loaded_at
triangle-loaded surface n count m good few e = record {
  each = λ i j h.
      in-front count m (loaded_at n surface) (spot i j) (rw e (spot-low i j (suc n) (omega arith)))
      ∙ rw (row-of i j (omega arith), column-of i j (omega arith));
  small = front-small count m (loaded_at n surface) 4096 (λ k. travels surface good (row_start n (row_of k) + column_of k));
}

-- where one argument is left, three numbers are
pub three-net : (surface : List ℤ) (i j : ℕ) → i + j ≤ 1 → held (front 3 0 (λ k. get_or surface k (pos 0))) i j ≡ stacked 1 surface i j
unfolding held spot before stacked row_start front
three-net surface zero zero h = refl
three-net surface zero (suc zero) h = refl
three-net surface (suc zero) zero h = refl
three-net surface zero (suc (suc j)) h = absurd (omega arith)
three-net surface (suc i) (suc j) h = absurd (omega arith)
three-net surface (suc (suc i)) zero h = absurd (omega arith)
