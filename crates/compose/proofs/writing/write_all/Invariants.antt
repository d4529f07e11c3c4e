-- `writing::write_all` meets its contract: the places passed are written, the others are still as they were. Assumes nothing.
use Prim.Native.Nat.{◌-◌, ◌≤◌}
use Rattle.compose.specs.writing.Arrays.{arrays}
use Rattle.compose.specs.writing.Placed.{Wrote}
use Rattle.compose.proofs.writing.write_all.Given as goal

abbrev pub invariant-loop-R : goal.invariant-loop-R
invariant-loop-R l =
    (l.R ≤ l.count) × Wrote l.sums (l.count - 1) l.r l.R (arrays l.initial.high l.initial.low l.initial.points) (arrays l.high l.low l.points)
