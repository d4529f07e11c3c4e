-- The number falls at each call. Assumes nothing.
use Rattle.spell.proofs.decimal.+write_digits.Given as goal

abbrev pub decreases-write_digits : goal.decreases-write_digits
decreases-write_digits l = l.n
