-- `card::refused` meets its contract: the bits of 0.0 are all 0. Assumes nothing.
use mathlib.Core.Path.{refl}
use Rattle.std.proofs.Common.{rules}
use lib.Ieee.{of_bits, to_bits}
use Rattle.request.specs.Cascade.{refused}
use Rattle.floats.specs.Float.{bits}
use Rattle.part.specs.Contract.{five, bits_at}
use Rattle.card.proofs.refused.Goals as goal

pub returns : goal.returns
unfolding refused five bits_at bits of_bits to_bits
returns c = record { shows = λ rq. record { number_is = search rules; place_is = refl; count_is = refl; bits_are = refl } }
