-- `entries::ending::put_ending` meets its contract. Assumes nothing.
use Rattle.page.proofs.Putting.{adds-same, adds-end}
use Rattle.shown.proofs.entries.ending.put_ending.Goals as goal

pub returns : goal.returns
returns c = adds-end _ _ _ _ (adds-same _ _ _ _ c.put_form.ensures c.ending-line.ensures) search
