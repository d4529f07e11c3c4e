-- `salvaging::step` meets its contract: one stretch. Assumes nothing.
use mathlib.Core.Path.{refl}
use native.Mathlib.Omega.{arith}
use Rattle.salvaging.proofs.Streaming.{ahead_within, turn-settles, turn-rests}
use Rattle.salvaging.proofs.step.Goals as goal

pub overflow_add-end : goal.overflow_add-end
overflow_add-end c = omega (arith, ahead_within _ _ _ _ _ _ c.ahead-next.ensures (omega arith))

pub slice_bounds-kept-end : goal.slice_bounds-kept-end
slice_bounds-kept-end c = omega (arith, ahead_within _ _ _ _ _ _ c.ahead-next.ensures (omega arith))

pub returns : goal.returns
returns c = (
  turn-settles _ _ _ _ _ _ c.ahead-next.ensures (omega arith) _ _ refl c.put.ensures,
  λ z. turn-rests _ _ _ _ _ _ c.ahead-next.ensures (omega arith) z,
)
