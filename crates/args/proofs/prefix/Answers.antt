-- `args::prefix` meets its contract. Assumes nothing.
use Rattle.std.proofs.Common.{arith}
use Rattle.args.proofs.Words.{begins, begins-not}
use Rattle.args.proofs.prefix.Goals as goal

pub returns : goal.returns
returns c = grind (arith, begins, begins-not, c.strip_prefix.ensures.cases)
