-- `shown::marked::put_line` meets its contract. Assumes nothing.
use mathlib.Core.Path.{refl, sym}
use mathlib.Core.List.{[]}
use native.Mathlib.Omega.{arith}
use Rattle.page.proofs.Putting.{onward-none, onward-more, onward-all, adds_then, adds-same}
use Rattle.shown.proofs.Telling.{line_word, mark-next, marks-over}
use Rattle.shown.proofs.marked.put_line.Goals as goal

pub loop-k-init : goal.loop-k-init
loop-k-init c = onward-none _ _

pub loop-k-preserved : goal.loop-k-preserved
loop-k-preserved c = onward-more _ _ _ _ c.loop-k.invariant _ _ _ c.put_byte.ensures
    (mark-next _ _ _ _ _ (omega arith) c.gap.ensures c.from.ensures)

pub returns : goal.returns
returns c = adds-same _ _ _ _ (adds_then _ _ _ _ _ c.put.ensures (onward-all _ _ _ []
    (onward-more _ _ _ _ c.loop-k.invariant _ _ _ c.put-2.ensures
    (marks-over _ _ _ _ (omega arith) c.last.ensures)) refl)) (sym (line_word _ _ _))
