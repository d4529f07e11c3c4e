-- `sums::fill` meets its contract: the points passed are in the table. Assumes nothing.
use mathlib.Core.Path.{◌≡◌}
use Prim.Native.Nat.{ℕ, ◌+◌, ◌≤◌, ◌<◌}
use lib.ListN.{length}
use Rattle.sums.specs.Filled.{PointAt}
use Rattle.sums.proofs.fill.Given as goal

abbrev pub invariant-loop-c : goal.invariant-loop-c
invariant-loop-c l = (l.c ≤ l.n + 1) × (length l.t ≡ 40) × ((d : ℕ) → d < l.c → PointAt l.fn.head l.path l.t d)
