-- `sheets::widen_all` meets its contract: each turn takes one point. Assumes nothing.
use Prim.Native.Nat.{◌-◌, ◌≤◌}
use Rattle.day.proofs.sheets.Leaves.{Widening}
use Rattle.day.proofs.sheets.widen_all.Given as goal

abbrev pub invariant-loop-k : goal.invariant-loop-k
invariant-loop-k l = (l.k ≤ l.count) × Widening l.reply l.initial.next l.count l.next l.k

abbrev pub decreases-loop-k : goal.decreases-loop-k
decreases-loop-k l = l.count - l.k
