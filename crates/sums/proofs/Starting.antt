-- The whole sum, from no argument taken, over the surface's own numbers. Assumes nothing.
use mathlib.Core.Path.{◌≡◌, refl, subst}
use mathlib.Core.List.{List}
use Prim.Native.Nat.{ℕ, ◌+◌, ◌≤◌}
use native.Mathlib.Nat.{le_trans}
use lib.IntN.{ℤ, pos}
use lib.ListN.{length, get_or}
use Rattle.limbs.specs.Limbs.{Gained}
use Rattle.limbs.proofs.Toward.{gained-as}
use Rattle.request.specs.Refusal.{value_place}
use Rattle.request.proofs.Bounds.{travels}
use Rattle.sums.specs.steps.Layout.{boxed, held}
use Rattle.sums.specs.steps.Stepped.{Small, entry_most}
use Rattle.sums.proofs.steps.Fronts.{front, in-front, front-small}
use Rattle.sums.proofs.steps.Rising.{entry-least}
use Rattle.sums.specs.gather.Owed.{of_group, owing, duty}
use Rattle.sums.specs.gather.Formed.{Counted}
use Rattle.sums.proofs.gather.Boxes.{box-reads}
use Rattle.sums.proofs.gather.Triangles.{triangle-reads}
use Rattle.sums.specs.Loaded.{stacked, LoadedBox, LoadedTriangle}
use Rattle.sums.proofs.Loading.{box-net, two-net, three-net}

-- travels are within the bound
pub few-small : (surface : List ℤ) (n d : ℕ) → value_place surface ≡ length surface → d ≤ 4 → Small (front n 0 (λ k. get_or surface k (pos 0))) (entry_most d)
few-small surface n d good few = front-small n 0 (λ k. get_or surface k (pos 0)) (entry_most d) (λ k. le_trans (travels surface good k) (entry-least d few))

pub loaded-small : (net : List ℤ) (d : ℕ) → d ≤ 4 → Small net 4096 → Small net (entry_most d)
loaded-small net d few small = record { most = λ k. le_trans (small.most k) (entry-least d few) }

module _ (t : List ℕ) (count second r : ℕ) (sums : List ℤ) where
  module _ (surface : List ℤ) (n : ℕ) (out : List ℤ) where
    pub one-done : r ≡ 1 → (begun : ℕ) → begun ≡ of_group second r
        → Counted t count 1 second 1 0 n
        × Gained sums out (owing t count 2 second 1 0 begun 0 1 (boxed (second + 1) (front 2 0 (λ k. get_or surface k (pos 0)))))
        (duty t count 2 second 1 0 begun 1)
        → Counted t count 1 second r 0 n
        × Gained sums out (owing t count 2 second r 0 (of_group second r) 0 1 (boxed (second + 1) surface)) (duty t count 2 second r 0 (of_group second r) 1)
    one-done e begun f q =
        rw e (
          q.0,
          subst (λ b. Gained sums out (owing t count 2 second 1 0 b 0 1 (boxed (second + 1) surface)) (duty t count 2 second 1 0 b 1))
              (rw e at f)
              (gained-as (box-reads t count second 1 0 begun 0 1 _ _ (two-net surface _ second (in-front 2 0 (λ k. get_or surface k (pos 0))))) refl q.1),
        )

    pub box-done : r ≤ 4 → (net : List ℤ) → LoadedBox surface net
        → Gained sums out (owing t count 2 second r 0 (of_group second r) 0 1 (boxed (second + 1) net)) (duty t count 2 second r 0 (of_group second r) 1)
        → Gained sums out (owing t count 2 second r 0 (of_group second r) 0 1 (boxed (second + 1) surface)) (duty t count 2 second r 0 (of_group second r) 1)
    box-done few net loaded = gained-as (box-reads t count second r 0 (of_group second r) 0 1 _ _ (box-net surface net second r few loaded)) refl

module _ (t : List ℕ) (count r : ℕ) (sums surface : List ℤ) (n : ℕ) (out : List ℤ) where
  pub three-done : r ≡ 1
      → Counted t count 2 0 1 0 n × Gained sums out (owing t count 0 0 1 0 r 0 1 (held (front 3 0 (λ k. get_or surface k (pos 0))))) (duty t count 0 0 1 0 r 1)
      → Counted t count 2 0 r 0 n × Gained sums out (owing t count 0 0 r 0 r 0 1 (stacked r surface)) (duty t count 0 0 r 0 r 1)
  three-done e q = let q = rw e at q in rw e (q.0, gained-as (triangle-reads t count 1 0 1 0 1 _ _ (three-net surface)) refl q.1)

  pub triangle-done : (net : List ℤ) → LoadedTriangle surface r net
      → Gained sums out (owing t count 0 0 r 0 r 0 1 (held net)) (duty t count 0 0 r 0 r 1)
      → Gained sums out (owing t count 0 0 r 0 r 0 1 (stacked r surface)) (duty t count 0 0 r 0 r 1)
  triangle-done net loaded = gained-as (triangle-reads t count r 0 r 0 1 _ _ loaded.each) refl
