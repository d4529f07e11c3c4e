-- `tick::lower` meets its contract: the places passed hold what the step gives. Assumes nothing.
use mathlib.Core.Path.{◌≡◌}
use Prim.Native.Nat.{◌+◌}
use native.Mathlib.Omega.{arith}
use Rattle.tick.proofs.Array.{same, none-lowered, one-lowered, all-lowered}
use Rattle.tick.proofs.lower.Goals as goal

pub loop-i-init : goal.loop-i-init
loop-i-init c = none-lowered _ _ c.requires.2

pub between-requires : goal.between-requires
between-requires c =
    let each = c.loop-i.invariant.fine.each in
    (c.requires.1, rw (same _ (each c.loop-i.i)) (each _), rw (same _ (each (c.loop-i.i + 1))) (each _))

pub loop-i-preserved : goal.loop-i-preserved
loop-i-preserved c =
    let each = c.loop-i.invariant.fine.each in
    rw (same _ c.between.ensures.1)
    (one-lowered _ _ c.loop-i.values c.loop-i.i _ _ _ (omega arith) c.loop-i.invariant (same _ (each _)) (same _ (each _)) c.between.ensures.0
    c.between.ensures.1)

pub returns : goal.returns
returns c =
    let e : c.loop-i.i ≡ c.args.count = omega arith in
    (all-lowered _ _ _ _ c.requires.0 c.requires.2 (rw e at c.loop-i.invariant), c.loop-i.invariant.fine)
