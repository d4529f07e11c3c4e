-- `answer_line::write_all` meets its contract: the numbers so far are written. Assumes nothing.
use Rattle.std.proofs.Common.{map}
use Rattle.answer_line.proofs.Listing.{Listing}
use Rattle.answer_line.proofs.write_all.Given as goal

abbrev pub invariant-loop-n : goal.invariant-loop-n
invariant-loop-n g l = Listing g.T.Number.room (map g.T.Number.value l.list) l.initial.out l.at l.out l.end l.n-index
