-- `shown::asked::put_numbers` meets its contract. Assumes nothing.
use native.Mathlib.Omega.{arith}
use Rattle.page.proofs.Putting.{onward-more, onward-all}
use Rattle.shown.proofs.Telling.{onward-from, numbers-all, number-next, numbers-over}
use Rattle.shown.proofs.asked.put_numbers.Goals as goal

pub loop-k-init : goal.loop-k-init
loop-k-init c = onward-from _ _ _ (numbers-all _ _ _)

pub loop-k-preserved : goal.loop-k-preserved
loop-k-preserved c = onward-more _ _ _ _ c.loop-k.invariant _ _ _ c.put_number.ensures (number-next _ _ _ _ _ (omega arith) c.number_at.ensures.0)

pub returns : goal.returns
returns c = onward-all _ _ _ _ c.loop-k.invariant (numbers-over _ _ _ _ (omega arith))
