-- `patch::patch_sums::fill` meets its contract: the points passed are in the table, and the index is that of the next. Assumes nothing.
use mathlib.Core.Path.{◌≡◌}
use Prim.Native.Nat.{ℕ, ◌≤◌, ◌<◌}
use lib.ListN.{length}
use Rattle.patch_net.proofs.Standing.{Stands}
use Rattle.patch.specs.patch_sums.Contract.{index_of, PointAt}
use Rattle.patch.proofs.patch_sums.fill.Given as goal

abbrev pub invariant-loop-c : goal.invariant-loop-c
invariant-loop-c l =
    (l.c ≤ l.count) × (length l.t ≡ 40) × ((d : ℕ) → d < l.c → PointAt l.N l.path l.t d) × (l.c < l.count → Stands l.N l.c (index_of l.at))
