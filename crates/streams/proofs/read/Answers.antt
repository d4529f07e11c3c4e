-- As many bytes as came went through the stream. Assumes nothing.
use Rattle.std.proofs.Common.{ap, rules}
use Rattle.streams.proofs.Streams.{came}
use Rattle.streams.proofs.read.Goals as goal

pub returns : goal.returns
returns c = (search rules, came _ _ _ _ (search rules) (ap (λ s. s.count) c.behind.ensures))
