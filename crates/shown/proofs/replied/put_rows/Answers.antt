-- `shown::replied::put_rows` meets its contract. Assumes nothing.
use mathlib.Core.Path.{◌∙◌}
use native.Mathlib.Omega.{arith}
use Rattle.page.proofs.Putting.{onward-more, onward-all}
use Rattle.shown.proofs.Telling.{onward-from, as_byte, rows_all, row_next, rows-over}
use Rattle.shown.proofs.replied.put_rows.Goals as goal

pub loop-k-init : goal.loop-k-init
loop-k-init c = onward-from _ _ _ (rows_all _ _ _)

pub loop-k-preserved : goal.loop-k-preserved
loop-k-preserved c = onward-more _ _ _ _ c.loop-k.invariant _ _ _ c.put_form.ensures
    (row_next _ _ _ _ _ _ (omega arith) (c.from.ensures ∙ as_byte _ ∙ c.lacks_point.ensures) (c.from-in-loop-k.ensures ∙ as_byte _ ∙ c.lacks_point-in-loop-k.ensures))

pub returns : goal.returns
returns c = onward-all _ _ _ _ c.loop-k.invariant (rows-over _ _ _ _ (omega arith))
