-- `whole::left` meets its contract: what the product leaves of n is on n's side of zero and no larger than n.
-- Assumes nothing.
use native.Mathlib.Omega.{arith}
use Rattle.whole.proofs.Bits.{product-written, left-written}
use Rattle.whole.proofs.left.Goals as goal

pub overflow_mul-result : goal.overflow_mul-result
overflow_mul-result c = (product-written c.args.n.0 c.args.d (omega arith) c.requires.0 c.args.q.0 (omega arith) c.requires.1).fits

pub overflow_sub-result : goal.overflow_sub-result
overflow_sub-result c = (left-written c.args.n.0 c.args.d (omega arith) c.requires.0 c.args.q.0 (omega arith) c.requires.1).fits

pub returns : goal.returns
returns c = (left-written c.args.n.0 c.args.d (omega arith) c.requires.0 c.args.q.0 (omega arith) c.requires.1).is
