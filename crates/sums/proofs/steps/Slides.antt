-- A rectangle: the numbers of the lower net are those that an argument makes, along u or along v. Assumes nothing.
use mathlib.Core.Path.{◌≡◌, ◌∙◌, ap}
use mathlib.Core.List.{List}
use Prim.Native.Nat.{ℕ, suc, ◌+◌, ◌*◌, ◌≤◌, ◌<◌}
use native.Mathlib.Nat.{suc-mul}
use native.Mathlib.Omega.{arith}
use lib.IntN.{ℤ, pos}
use lib.ListN.{get_or}
use Rattle.net.specs.Blossom.{along_u, along_v, step}
use Rattle.sums.specs.steps.Layout.{boxed}
use Rattle.sums.specs.steps.Stepped.{between, Slid}
use Rattle.sums.proofs.steps.Mixing.{between-most}
use Rattle.sums.proofs.steps.Fronts.{front, in-front, front-small}

abbrev pub slide_of : List ℤ → ℕ → ℕ → ℕ → ℤ
slide_of p s gap k = between s (get_or p k (pos 0)) (get_or p (k + gap) (pos 0))

pub front-slid : (p : List ℤ) (s gap count n m : ℕ) → s ≤ 1024 → count ≤ n → Slid p s gap count (front n m (slide_of p s gap))
front-slid p s gap count n m h few = record {
  each = λ k l. in-front n m (slide_of p s gap) k (omega arith);
  most = λ bound small. front-small n m (slide_of p s gap) _ (λ k. between-most s _ _ bound h (small.most k) (small.most (k + gap)));
}

pub slid-u : (p q : List ℤ) (s gap count : ℕ) → Slid p s gap count q → (i j : ℕ) → i * gap + j < count
    → boxed gap q i j ≡ step (along_u (pos s)) (boxed gap p) i j
unfolding boxed step between
slid-u p q s gap count h i j l =
    let e : i * gap + j + gap ≡ suc i * gap + j = omega (arith, suc-mul i gap) in
    h.each (i * gap + j) l ∙ ap (λ n. between s (get_or p (i * gap + j) (pos 0)) (get_or p n (pos 0))) e

pub slid-v : (p q : List ℤ) (s gap count : ℕ) → Slid p s 1 count q → (j : ℕ) → j < count → boxed gap q 0 j ≡ step (along_v (pos s)) (boxed gap p) 0 j
unfolding boxed step between
slid-v p q s gap count h j l =
    let a : 0 * gap + j ≡ j = omega arith in
    let b : 0 * gap + suc j ≡ j + 1 = omega arith in
    rw (a, b) (h.each j l)
