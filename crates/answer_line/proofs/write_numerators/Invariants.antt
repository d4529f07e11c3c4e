-- `answer_line::write_numerators` meets its contract: the numbers so far are written. Assumes nothing.
use Rattle.two_words.specs.Words.{numbers_of}
use Rattle.answer_line.proofs.Listing.{Listing}
use Rattle.answer_line.proofs.write_numerators.Given as goal

abbrev pub invariant-loop-k : goal.invariant-loop-k
invariant-loop-k l = Listing 41 (numbers_of l.high l.low) l.initial.out l.at l.out l.end l.k
