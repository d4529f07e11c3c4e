-- `entries::ending::cut` meets its contract. Assumes nothing.
use Rattle.shown.proofs.entries.Telling.{cut-form}
use Rattle.shown.proofs.entries.ending.cut.Goals as goal

pub returns : goal.returns
returns c = cut-form _ _ _ _ c.sum.ensures
