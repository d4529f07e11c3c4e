-- `sums::gather::weighed` meets its contract: a weight stands at 1. Assumes nothing.
use Rattle.sums.proofs.gather.weighed.Goals as goal

pub overflow_mul-result : goal.overflow_mul-result
overflow_mul-result c = rw c.share.ensures (record { fits = c.requires.1 })

pub returns : goal.returns
returns c = rw c.share.ensures
