-- `two_words::doubled` meets its contract: 1024^r is 2^10r, and what is left of twice the size fits 64 bits. Assumes nothing.
use Rattle.std.proofs.Common.{refl, arith}
use Rattle.two_words.proofs.Dividing.{power, doubled-below, most}
use Rattle.two_words.proofs.doubled.Goals as goal

pub returns : goal.returns
returns c = rw (power c.args.r c.requires.0) (refl, doubled-below c.args.r c.args.size c.requires.1)

pub overflow_mul-result : goal.overflow_mul-result
overflow_mul-result c = record { fits = omega (arith, most c.args.r c.requires.0) }

pub overflow_cast-result-2 : goal.overflow_cast-result-2
overflow_cast-result-2 c = record { fits = rw (power c.args.r c.requires.0) (omega (arith, doubled-below c.args.r c.args.size c.requires.1)) }
