-- `floats::step` meets its contract: it computes `mixed`, which is exact (`step-law`). Assumes nothing.
use Rattle.std.proofs.Common.{ap}
use Rattle.floats.specs.Float.{bits}
use Rattle.floats.specs.Step.{mixed}
use Rattle.floats.proofs.Steps.{step-law}
use Rattle.floats.proofs.step.Goals as goal

pub returns : goal.returns
unfolding mixed
returns c = let e = c.rest.ensures in record { is = rw e; exact = λ z y k x. rw e (ap bits (step-law x)) }
