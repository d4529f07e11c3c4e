-- `asking::put` meets its contract: there is a complaint, or none. Assumes nothing.
use mathlib.Core.Path.{sym, ◌∙◌}
use Rattle.asking.proofs.Telling.{puts-quiet, puts-loud}
use Rattle.asking.proofs.put.Goals as goal

pub returns-then-is_empty : goal.returns-then-is_empty
returns-then-is_empty c = puts-quiet _ _ _ _ _ c.answered.ensures _ (sym c.is_empty.ensures ∙ c.if-is_empty.true)

pub returns : goal.returns
returns c = puts-loud _ _ _ _ _ c.answered-2.ensures _ (sym c.is_empty.ensures ∙ c.if-is_empty.false) _ _
    c.write-named.ensures
    c.write.ensures
