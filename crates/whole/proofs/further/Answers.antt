-- `whole::further` meets its contract: it is no further from zero than n, so that it fits. Assumes nothing.
use native.Mathlib.Omega.{arith}
use Rattle.whole.proofs.Bits.{down-written, up-written}
use Rattle.whole.proofs.further.Goals as goal

pub returns-then-n-lt0 : goal.returns-then-n-lt0
returns-then-n-lt0 c = (down-written c.args.n.0 c.args.q.0 c.args.up (omega arith) (omega arith) c.requires.0 c.requires.1 (omega arith) c.if-n-lt0.true).is

pub returns-else-n-lt0 : goal.returns-else-n-lt0
returns-else-n-lt0 c = (up-written c.args.n.0 c.args.q.0 c.args.up (omega arith) (omega arith) c.requires.0 c.requires.1 (omega arith) c.if-n-lt0.false).is
