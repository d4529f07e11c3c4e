-- `renewal::carry_all` meets its contract: the parts so far were carried. Assumes nothing.
use Rattle.renewal.proofs.Carrying.{carries-none, carries-more}
use Rattle.renewal.proofs.carry_all.Goals as goal

pub loop-init : goal.loop-init
loop-init c = carries-none _ _ _ _

pub returns-then-night-eq0 : goal.returns-then-night-eq0
returns-then-night-eq0 c = carries-more _ c.loop.invariant c.carry_part-night.ensures

pub loop-preserved : goal.loop-preserved
loop-preserved c = carries-more _ c.loop.invariant c.carry_part-night.ensures
