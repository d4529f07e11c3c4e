-- The arguments that are left fall at each call; each turn of the loop adds what its term takes on. Assumes nothing.
use Rattle.std.proofs.Common.{◌+◌, ◌-◌, ◌≤◌}
use Rattle.sums.specs.steps.Layout.{boxed}
use Rattle.sums.specs.gather.Table.{terms_of}
use Rattle.sums.specs.gather.Owed.{group_at, of_group, read_at, rest_at}
use Rattle.sums.proofs.gather.Turn.{Sofar}
use Rattle.sums.proofs.gather.Counting.{Counting}
use Rattle.sums.proofs.gather.+gather_row.Given as goal

abbrev pub decreases-gather_row : goal.decreases-gather_row
decreases-gather_row l = l.left

abbrev pub invariant-loop-c : goal.invariant-loop-c
invariant-loop-c l =
    (l.c ≤ l.count) × Counting l.t l.count 1 l.second (l.left - 1) l.fn.run.from l.c l.n
    × Sofar (read_at l.t l.count l.second l.left) (rest_at l.t l.count l.second l.left) (terms_of l.t l.count (group_at 2 l.second l.left))
    (of_group l.second l.left) l.fn.run.from l.fn.run.begun l.fn.run.weight l.fn.run.s (boxed (l.second + 1) l.net) l.initial.sums l.closed l.c l.b l.w l.sums
