-- `tick::curve` meets its contract: what is left to read after each step is the reading. Assumes nothing.
use mathlib.Core.Path.{◌≡◌}
use Prim.Native.Nat.{◌-◌, ◌≤◌}
use lib.ListN.{length, take}
use Rattle.tick.specs.Reading.{after, reading}
use Rattle.tick.specs.Carried.{Carried}
use Rattle.tick.proofs.curve.Given as goal

abbrev pub invariant-loop-left : goal.invariant-loop-left
invariant-loop-left l = (1 ≤ l.left) × (l.left ≤ length l.points) × Carried l.values × (after (l.left - 1) l.k (take l.left l.values) ≡ reading l.points l.k)
