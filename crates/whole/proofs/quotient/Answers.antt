-- `whole::quotient` meets its contract: the quotient is on n's side of zero and no larger than n.
-- Assumes nothing.
use native.Mathlib.Omega.{arith}
use Rattle.whole.proofs.Bits.{quotient-written}
use Rattle.whole.proofs.quotient.Goals as goal

pub returns : goal.returns
returns c = (quotient-written c.args.n.0 c.args.d (omega arith) (omega arith)).is
