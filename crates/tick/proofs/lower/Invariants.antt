-- `tick::lower` meets its contract: the places passed hold what the step gives. Assumes nothing.
use Rattle.tick.proofs.Array.{Lowering}
use Rattle.tick.proofs.lower.Given as goal

abbrev pub invariant-loop-i : goal.invariant-loop-i
invariant-loop-i l = Lowering l.k l.initial.values l.values l.i
