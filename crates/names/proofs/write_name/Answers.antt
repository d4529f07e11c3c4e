-- `names::write_name` meets its contract: no name has more than nine bytes. Assumes nothing.
use native.Mathlib.Omega.{arith}
use Rattle.spell.proofs.Writing.{written-within}
use Rattle.names.proofs.Naming.{name_small}
use Rattle.names.proofs.write_name.Goals as goal

pub write_bytes-requires : goal.write_bytes-requires
write_bytes-requires c = rw c.name_of.ensures (omega (arith, name_small c.args.n))

pub returns : goal.returns
returns c = rw c.name_of.ensures at (written-within _ _ _ _ _ _ c.write_bytes.ensures 9 (rw c.name_of.ensures (name_small c.args.n)))
