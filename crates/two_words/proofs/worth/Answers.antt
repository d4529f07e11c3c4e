-- `two_words::worth` meets its contract: nothing is lost in 128 bits. Assumes nothing.
use Rattle.std.proofs.Common.{arith}
use Rattle.std.proofs.lemmas.Int.{ints}
use Rattle.limbs.specs.Limbs.{worth, two_limbs}
use Rattle.two_words.proofs.worth.Goals as goal

pub returns : goal.returns
unfolding worth two_limbs
returns c = omega (arith, ints)
