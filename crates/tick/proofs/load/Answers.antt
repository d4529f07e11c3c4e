-- `tick::load` meets its contract: the points passed are carried in their places. Assumes nothing.
use native.Mathlib.Omega.{arith}
use Rattle.tick.proofs.Array.{same, none-loaded, one-loaded, all-loaded}
use Rattle.tick.proofs.load.Goals as goal

pub loop-i-init : goal.loop-i-init
loop-i-init c = none-loaded _ _ c.requires.2

pub loop-i-preserved : goal.loop-i-preserved
loop-i-preserved c =
    rw (same _ c.carried_at.ensures.1) (one-loaded _ _ _ _ (omega arith) c.loop-i.invariant c.carried_at.ensures.0 c.carried_at.ensures.1)

pub returns : goal.returns
returns c = (all-loaded _ _ _ (omega arith) c.requires.0 c.loop-i.invariant, c.loop-i.invariant.fine)
