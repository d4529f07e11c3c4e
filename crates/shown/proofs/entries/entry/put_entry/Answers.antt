-- `entries::entry::put_entry` meets its contract. Assumes nothing.
use Rattle.page.proofs.Putting.{adds_then, adds-same, adds-end}
use Rattle.shown.proofs.entries.Telling.{entry-told}
use Rattle.shown.proofs.entries.entry.put_entry.Goals as goal

pub returns : goal.returns
returns c = adds-end _ _ _ _ (adds-same _ _ _ _ (adds_then _ _ _ _ _ c.put_form.ensures c.put_change.ensures) (entry-told _ _ _ _ _)) search
