-- `floats::rest` meets its contract: 1024.0 is the whole number. Assumes nothing.
use Rattle.std.proofs.Common.{refl}
use lib.Ieee.{of_bits, of_int}
use Rattle.floats.specs.Float.{float}
use Rattle.floats.proofs.rest.Goals as goal

pub returns : goal.returns
unfolding float of_bits of_int
returns c = refl
