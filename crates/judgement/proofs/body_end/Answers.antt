-- `judgement::body_end` meets its contract: the counts are small, so that the sum fits. Assumes nothing.
use native.Mathlib.Omega.{arith}
use Rattle.judgement.specs.Record.{path_start, body_end}
use Rattle.judgement.proofs.Sizes.{surface-most, path-most}
use Rattle.judgement.proofs.body_end.Goals as goal

pub overflow_mul-result : goal.overflow_mul-result
overflow_mul-result c = omega (arith, surface-most c.args.head c.requires.1)

pub overflow_add-result : goal.overflow_add-result
overflow_add-result c = omega (arith, surface-most c.args.head c.requires.1)

pub overflow_mul-result-2 : goal.overflow_mul-result-2
overflow_mul-result-2 c = omega (arith, path-most c.args.head c.requires.1)

pub overflow_add-result-2 : goal.overflow_add-result-2
overflow_add-result-2 c =
    omega (arith, surface-most c.args.head c.requires.1, path-most c.args.head c.requires.1)

pub returns : goal.returns
unfolding path_start body_end
returns c = omega arith
