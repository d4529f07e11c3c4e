-- `sums::gather::last_row` meets its contract: each turn adds one weighed value. Assumes nothing.
use Prim.Native.Nat.{◌+◌, ◌≤◌}
use Rattle.sums.specs.steps.Layout.{boxed}
use Rattle.sums.specs.steps.Few.{in_two}
use Rattle.sums.proofs.gather.Gathering.{Ending}
use Rattle.sums.proofs.gather.last_row.Given as goal

abbrev pub invariant-loop-c : goal.invariant-loop-c
invariant-loop-c l = (l.c ≤ l.count) × Ending l.t l.count 2 l.second l.fn.run.from l.fn.run.begun l.fn.run.s l.fn.run.weight l.initial.sums
    (boxed (l.second + 1) (in_two l.net)) l.closed l.c l.w l.sums
