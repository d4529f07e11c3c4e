-- The arguments that are left fall at each call; each turn of the loop adds what its term takes on. Assumes nothing.
use Rattle.std.proofs.Common.{◌-◌, ◌≤◌}
use Rattle.sums.specs.steps.Layout.{held}
use Rattle.sums.specs.gather.Table.{terms_of}
use Rattle.sums.specs.gather.Owed.{group_at, of_group, read_at, rest_at}
use Rattle.sums.proofs.gather.Turn.{Sofar}
use Rattle.sums.proofs.gather.Counting.{Counting}
use Rattle.sums.proofs.gather.+gather_tri.Given as goal

abbrev pub decreases-gather_tri : goal.decreases-gather_tri
decreases-gather_tri l = l.left

abbrev pub invariant-loop-c : goal.invariant-loop-c
invariant-loop-c l =
    (l.c ≤ l.count) × Counting l.t l.count 2 0 (l.left - 1) l.fn.run.from l.c l.n
    × Sofar (read_at l.t l.count 0 l.left) (rest_at l.t l.count 0 l.left) (terms_of l.t l.count (group_at 0 0 l.left)) (of_group 0 l.left)
    l.fn.run.from l.fn.run.begun l.fn.run.weight l.fn.run.s (held l.net) l.initial.sums l.closed l.c l.b l.w l.sums
