-- `sums::gather::last_tri` meets its contract: each turn adds one weighed value. Assumes nothing.
use Prim.Native.Nat.{◌≤◌}
use Rattle.sums.specs.steps.Layout.{held}
use Rattle.sums.specs.steps.Few.{in_three}
use Rattle.sums.proofs.gather.Gathering.{Ending}
use Rattle.sums.proofs.gather.last_tri.Given as goal

abbrev pub invariant-loop-c : goal.invariant-loop-c
invariant-loop-c l = (l.c ≤ l.count) × Ending l.t l.count 0 0 l.fn.run.from l.fn.run.begun l.fn.run.s l.fn.run.weight l.initial.sums (held (in_three l.net))
    l.closed l.c l.so_far l.sums
