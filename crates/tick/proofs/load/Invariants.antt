-- `tick::load` meets its contract: the points passed are carried in their places. Assumes nothing.
use Rattle.tick.proofs.Array.{Loading}
use Rattle.tick.proofs.load.Given as goal

abbrev pub invariant-loop-i : goal.invariant-loop-i
invariant-loop-i l = Loading l.points l.values l.i
