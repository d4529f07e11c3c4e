-- `wire::number_at` meets its contract: what the machine has for two bytes with a sign. Assumes nothing.
use native.Mathlib.Omega.{arith}
use Rattle.std.proofs.lemmas.Int.{to_z-of_z}
use Rattle.wire.proofs.Words.{signed-is, signed-short}
use Rattle.wire.proofs.number_at.Goals as goal

pub returns : goal.returns
returns c = grind (arith, to_z-of_z, signed-is, signed-short)
