-- `salvaging::settle` meets its contract: one stretch after the other. Assumes nothing.
use Prim.Native.Nat.{◌-◌}
use lib.ListN.{length}
use Rattle.salvaging.specs.Salvaging.{Settles}
use Rattle.salvaging.proofs.settle.Given as goal

abbrev pub invariant-loop-at : goal.invariant-loop-at
invariant-loop-at l = Settles l.last l.window l.initial.now l.at l.now

abbrev pub decreases-loop-at : goal.decreases-loop-at
decreases-loop-at l = length l.window - l.at
