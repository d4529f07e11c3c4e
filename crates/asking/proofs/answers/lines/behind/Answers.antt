-- `asking::answers::lines::behind` meets its contract. Assumes nothing.
use Rattle.asking.specs.answers.Contract.{behind_line}
use Rattle.asking.proofs.answers.lines.behind.Goals as goal

pub returns : goal.returns
unfolding behind_line
returns c = rw c.more.ensures
