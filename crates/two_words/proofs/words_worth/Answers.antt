-- `two_words::words_worth` meets its contract: nothing is lost in 128 bits. Assumes nothing.
use Rattle.std.proofs.Common.{arith}
use Rattle.std.proofs.lemmas.Int.{ints}
use Rattle.two_words.specs.Words.{two_words}
use Rattle.two_words.proofs.words_worth.Goals as goal

pub returns : goal.returns
unfolding two_words
returns c = (omega (arith, ints), omega arith)
