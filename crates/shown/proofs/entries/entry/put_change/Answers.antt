-- `entries::entry::put_change` meets its contract. Assumes nothing.
use Rattle.page.proofs.Putting.{adds-same}
use Rattle.shown.proofs.entries.entry.put_change.Goals as goal

pub returns : goal.returns
returns c = adds-same _ _ _ _ c.put_form.ensures c.change-line.ensures
