-- `asking::read_all` meets its contract: the parts so far were read and answered. Assumes nothing.
use mathlib.Core.Path.{refl}
use native.Mathlib.Omega.{arith}
use Rattle.asking.proofs.Telling.{read_none, read_one, read_more}
use Rattle.asking.proofs.read_all.Goals as goal

pub loop-init : goal.loop-init
loop-init c = (refl, refl, read_none _ _ _ _)

pub loop-preserved : goal.loop-preserved
loop-preserved c = (
  omega arith,
  omega arith,
  read_more _ _ _ _ _ _ _ _ _ _ c.loop.invariant.1 c.loop.invariant.2
      (read_one _ _ _ _ _ _ _ _ c.read-got.ensures.1 c.take_part.ensures),
)

pub returns-then-got-eq0 : goal.returns-then-got-eq0
returns-then-got-eq0 c =
    read_more _ _ _ _ _ _ _ _ _ _ c.loop.invariant.1 c.loop.invariant.2
    (read_one _ _ _ _ _ _ _ _ c.read-got.ensures.1 c.take_part.ensures)
