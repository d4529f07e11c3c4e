-- `sums::gather::pair_tri` meets its contract: each turn adds what its term takes on. Assumes nothing.
use Prim.Native.Nat.{◌≤◌}
use Rattle.sums.specs.steps.Layout.{held}
use Rattle.sums.specs.steps.Few.{in_six}
use Rattle.sums.specs.gather.Table.{terms_of}
use Rattle.sums.specs.gather.Owed.{group_at, of_group, read_at, rest_at}
use Rattle.sums.proofs.gather.Turn.{Sofar}
use Rattle.sums.proofs.gather.Counting.{Counting}
use Rattle.sums.proofs.gather.pair_tri.Given as goal

abbrev pub invariant-loop-c : goal.invariant-loop-c
invariant-loop-c l =
    (l.c ≤ l.count) × Counting l.t l.count 2 0 1 l.fn.run.from l.c l.n
    × Sofar (read_at l.t l.count 0 2) (rest_at l.t l.count 0 2) (terms_of l.t l.count (group_at 0 0 2)) (of_group 0 2) l.fn.run.from l.fn.run.begun l.fn.run.weight l.fn.run.s (held (in_six l.net)) l.initial.sums
    l.closed l.c l.b l.w l.sums
