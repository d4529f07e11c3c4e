-- `day::sheet_lines::write_refusals` meets its contract: each turn writes one line. Assumes nothing.
use Prim.Native.Nat.{◌-◌}
use lib.ListN.{length}
use Rattle.day.proofs.sheet_lines.Telling.{Refusing}
use Rattle.day.proofs.sheet_lines.write_refusals.Given as goal

abbrev pub invariant-loop-n : goal.invariant-loop-n
invariant-loop-n l = Refusing l.counts l.initial.out l.at l.out l.end l.n

abbrev pub decreases-loop-n : goal.decreases-loop-n
decreases-loop-n l = length l.counts - l.n
