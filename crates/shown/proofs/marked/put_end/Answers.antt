-- `shown::marked::put_end` meets its contract. Assumes nothing.
use Rattle.page.proofs.Putting.{adds_then, adds-same}
use Rattle.shown.proofs.Telling.{in-neither, in_either}
use Rattle.shown.proofs.marked.put_end.Goals as goal

pub returns-then-max-mark : goal.returns-then-max-mark
returns-then-max-mark c = adds-same _ _ _ _ c.put.ensures (in-neither _ _ _ c.first_difference-mark.ensures (rw c.max.ensures at c.if-max-mark.true))

pub returns : goal.returns
returns c = adds-same _ _ _ _ (adds_then _ _ _ _ _ (adds_then _ _ _ _ _ c.put_line.ensures c.put_line-2.ensures) c.put_form.ensures)
    (in_either _ _ _ c.first_difference-mark.ensures (rw c.max.ensures at c.if-max-mark.false))
