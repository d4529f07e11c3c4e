-- `two_words::words_of` meets its contract: a shift rounds down, and the low word is the rest. Assumes nothing.
use Rattle.two_words.proofs.Joining.{high-written, low-written}
use Rattle.two_words.proofs.words_of.Goals as goal

pub returns : goal.returns
returns c = (high-written c.args.n c.ranges.n, low-written c.args.n _ c.ranges.n c.cast_unsigned.ensures)
