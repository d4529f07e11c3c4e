-- `tick::rounded` meets its contract: half is added, and the rest cut off. Assumes nothing.
use native.Mathlib.Omega.{arith}
use Rattle.std.proofs.Common.{rules}
use Rattle.whole.proofs.Bits.{quotient-written}
use Rattle.tick.proofs.Sizes.{half-size, rounded-is}
use Rattle.tick.proofs.rounded.Goals as goal

pub sum-requires : goal.sum-requires
sum-requires c = omega (arith, half-size c.args.n.0 c.half.result.0 c.half.ensures)

pub nonzero_div-result : goal.nonzero_div-result
nonzero_div-result c = (omega arith, (quotient-written c.sum.result.0 1024 (search rules) (omega arith)).fits)

pub returns : goal.returns
returns c =
    rounded-is c.args.n.0 c.half.result.0 c.sum.result.0 _ c.half.ensures c.sum.ensures.0 (quotient-written c.sum.result.0 1024 (search rules) (omega arith)).is
