-- What was written went through the stream. Assumes nothing.
use Rattle.std.proofs.Common.{rules, ap}
use Rattle.streams.proofs.Streams.{written}
use Rattle.streams.proofs.write.Goals as goal

pub returns : goal.returns
returns c = written _ _ _ (search rules) (ap (λ s. s.count) c.behind.ensures)
