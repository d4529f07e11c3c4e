-- Laws of the leaves of the sheet: the span a point at a time, and a pair by its reply. Assumes nothing.
use mathlib.Core.Path.{◌≡◌, refl}
use mathlib.Core.List.{List}
use Prim.Native.Nat.{ℕ, suc, ◌+◌, ◌-◌, ◌≤◌, ◌<◌}
use native.Mathlib.Omega.{arith}
use lib.IntN.{ℤ}
use Rattle.wire.specs.Words.{number_at}
use Rattle.wire.specs.Start.{start, record_in, behind}
use Rattle.pairs.specs.Cut.{pair_in}
use Rattle.day.specs.declared.sheets.Span.{Span}
use Rattle.day.specs.declared.sheets.Sheet.{Sheet}
use Rattle.day.specs.sheets.Sheet.{in_turn, count_of, points_in, widened, widened_all}
use Rattle.day.specs.sheets.Fold.{with_reply, adds}

-- a loop over the points of a reply: what those that are left make of the span is what all of them make of the first
abbrev pub Widening : List ℕ → Span → ℕ → Span → ℕ → Type 0
Widening reply first count s k = widened_all s (in_turn (number_at reply start) k (count - k)) ≡ widened_all first (points_in reply)

module _ (reply : List ℕ) (first : Span) (count : ℕ) (is : count ≡ count_of reply) where
  pub widening-none : Widening reply first count first 0
  unfolding points_in
  widening-none = let all : count - 0 ≡ count_of reply = omega arith in rw all

  pub widening-more : (s s' : Span) (k : ℕ) (z : ℤ) → k < count → z ≡ number_at reply start k → s' ≡ widened s z
      → Widening reply first count s k → Widening reply first count s' (k + 1)
  unfolding in_turn widened_all
  widening-more s s' k z l e f w =
      let left : count - k ≡ suc (count - (k + 1)) = omega arith in
      let next : k + 1 ≡ suc k = omega arith in
      rw (f, e, next) (rw (left, next) at w)

  pub widening-all : (s : Span) (k : ℕ) → count ≤ k → Widening reply first count s k → s ≡ widened_all first (points_in reply)
  unfolding in_turn widened_all
  widening-all s k l w = let none : count - k ≡ 0 = omega arith in rw none at w

-- a pair's reply
pub adds-is : (s : Sheet) (bytes : List ℕ) → with_reply s (record_in (behind bytes)) ≡ adds s (pair_in bytes)
unfolding adds pair_in
adds-is s bytes = refl
