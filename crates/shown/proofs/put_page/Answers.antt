-- `shown::put_page` meets its contract. Assumes nothing.
use native.Mathlib.Omega.{arith}
use Rattle.page.proofs.Putting.{adds_then, adds-same, adds-end}
use Rattle.shown.proofs.Telling.{page-told}
use Rattle.shown.proofs.put_page.Goals as goal

pub returns : goal.returns
returns c = adds-end _ _ _ _
    (adds-same _ _ _ _
    (adds_then _ _ _ _ _ (adds_then _ _ _ _ _ (adds_then _ _ _ _ _ (adds_then _ _ _ _ _ c.put_title.ensures c.put_kind.ensures) c.put_line.ensures) c.put_table.ensures) c.put_end.ensures)
    (page-told _ _ _ _ _ _ (omega arith)))
    search
