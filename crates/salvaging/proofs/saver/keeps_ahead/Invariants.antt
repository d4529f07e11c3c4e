-- `salvaging::saver::keeps_ahead` meets its contract. Assumes nothing.
use Prim.Native.Nat.{◌-◌}
use lib.ListN.{length}
use Rattle.pairs.specs.Cut.{longest_record}
use Rattle.door.specs.Contract.{reply_of}
use Rattle.salvaging.proofs.saver.Looking.{Kept}
use Rattle.salvaging.proofs.saver.keeps_ahead.Given as goal

abbrev pub invariant-loop-n : goal.invariant-loop-n
invariant-loop-n l = Kept longest_record reply_of l.window l.i

abbrev pub decreases-loop-n : goal.decreases-loop-n
decreases-loop-n l = length l.window - l.i
