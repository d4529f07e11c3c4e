-- `salvaging::settle` meets its contract: one stretch after the other. Assumes nothing.
use native.Mathlib.Omega.{arith}
use Rattle.salvaging.proofs.Streaming.{settles-none, settles-more, rests-here, rests-over}
use Rattle.salvaging.proofs.settle.Goals as goal

pub loop-at-init : goal.loop-at-init
loop-at-init c = settles-none _ _ _

pub returns-then-next-eq0 : goal.returns-then-next-eq0
returns-then-next-eq0 c = (c.loop-at.invariant, rests-here _ _ c.loop-at.invariant (c.step-next.ensures.1 c.if-next-eq0.true))

pub overflow_add-at : goal.overflow_add-at
overflow_add-at c = omega (arith, (settles-more _ _ c.loop-at.invariant c.step-next.ensures.0).within)

pub loop-at-smaller : goal.loop-at-smaller
loop-at-smaller c = omega (arith, (settles-more _ _ c.loop-at.invariant c.step-next.ensures.0).within)

pub loop-at-preserved : goal.loop-at-preserved
loop-at-preserved c = settles-more _ _ c.loop-at.invariant c.step-next.ensures.0

pub returns : goal.returns
returns c = (c.loop-at.invariant, rests-over _ _ c.loop-at.invariant (omega arith))
