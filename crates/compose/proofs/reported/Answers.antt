-- `compose::reported` meets its contract, form by form. Assumes nothing.
use Rattle.compose.proofs.Entry.{entries_none, entries-told}
use Rattle.compose.proofs.reported.Goals as goal

pub returns-then-head-eq2 : goal.returns-then-head-eq2
returns-then-head-eq2 c = entries_none _ c.if-head-eq2.true

pub returns : goal.returns
returns c = entries-told _ _ c.requires c.if-head-eq2.false
