-- `shown::replied::put_table` meets its contract. Assumes nothing.
use Rattle.page.proofs.Putting.{adds_then, adds-same}
use Rattle.shown.proofs.Telling.{table-told}
use Rattle.shown.proofs.replied.put_table.Goals as goal

pub returns : goal.returns
returns c = adds-same _ _ _ _
    (adds_then _ _ _ _ _ (adds_then _ _ _ _ _ (adds_then _ _ _ _ _ (adds_then _ _ _ _ _ (adds_then _ _ _ _ _ c.put_form.ensures c.put_answer.ensures) c.put.ensures) c.put_answer-2.ensures) c.put_form-2.ensures)
    c.put_rows.ensures)
    (table-told _ _ _ _ _ c.points.ensures.0 c.points-2.ensures.0 c.max.ensures)
