-- `spell::line::write_bytes` meets its contract: the bytes are copied to their place. Assumes nothing.
use mathlib.Core.Path.{refl}
use native.Mathlib.Omega.{arith}
use Rattle.spell.proofs.Writing.{copied}
use Rattle.spell.proofs.line.write_bytes.Goals as goal

pub returns : goal.returns
returns c = record { ends = refl; holds = copied _ _ _ _ (omega arith) c.copy_from_slice.ensures.after; small = omega arith }
