-- `salvaging::saver::skips_ahead` meets its contract. Assumes nothing.
use Rattle.pairs.specs.Cut.{longest_record}
use Rattle.door.specs.Contract.{reply_of}
use Rattle.salvaging.proofs.saver.Looking.{Skipped}
use Rattle.salvaging.proofs.saver.skips_ahead.Given as goal

abbrev pub invariant-loop-i : goal.invariant-loop-i
invariant-loop-i l = Skipped longest_record reply_of l.last l.window l.i
