-- `salvaging::finish` meets its contract: the line of the last run. Assumes nothing.
use native.Mathlib.Omega.{arith}
use Rattle.salvaging.proofs.Streaming.{closes}
use Rattle.salvaging.proofs.finish.Goals as goal

pub returns : goal.returns
returns c = let e = closes c.close-n.ensures (omega arith) in rw e at c.put.ensures
