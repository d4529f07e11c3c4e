-- The high word falls at each call. Assumes nothing.
use Rattle.answer_line.proofs.long_decimal.+write_size.Given as goal

abbrev pub decreases-write_size : goal.decreases-write_size
decreases-write_size l = l.high
