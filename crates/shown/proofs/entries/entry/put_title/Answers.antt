-- `entries::entry::put_title` meets its contract. Assumes nothing.
use Rattle.page.proofs.Putting.{adds-same}
use Rattle.shown.proofs.entries.Telling.{title-told}
use Rattle.shown.proofs.entries.entry.put_title.Goals as goal

pub returns : goal.returns
returns c = adds-same _ _ _ _ c.put_form.ensures (title-told _ _ _ _)
