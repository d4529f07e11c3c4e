-- `sums::store_term` meets its contract: four stores, one after the other. Assumes nothing.
use Prim.Native.Nat.{◌*◌}
use Rattle.sums.proofs.Filling.{four-stores}
use Rattle.sums.proofs.store_term.Goals as goal

pub returns : goal.returns
returns c = let a = c.args in four-stores a.t.now (4 * a.c) a.key a.weight a.a a.b
