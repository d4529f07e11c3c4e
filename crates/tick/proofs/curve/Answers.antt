-- `tick::curve` meets its contract: what is left to read after each step is the reading. Assumes nothing.
use mathlib.Core.Path.{◌≡◌, sym, ap, ◌∙◌}
use Prim.Native.Nat.{◌+◌, ◌-◌}
use native.Mathlib.Omega.{arith}
use lib.ListN.{length}
use Rattle.tick.specs.Reading.{after, reading}
use Rattle.tick.proofs.Array.{same, no-values, after-step, after_last}
use Rattle.tick.proofs.curve.Goals as goal

pub load-requires : goal.load-requires
load-requires c = (c.requires.1, c.requires.2, no-values)

pub loop-left-init : goal.loop-left-init
unfolding reading
loop-left-init c = (omega arith, omega arith, c.load.ensures.1, ap (after (length c.args.points.now - 1) c.args.k) c.load.ensures.0)

pub lower-requires : goal.lower-requires
lower-requires c = (omega arith, c.requires.3, c.loop-left.invariant.2)

pub loop-left-preserved : goal.loop-left-preserved
loop-left-preserved c =
    let one : c.loop-left.left - 1 + 1 ≡ c.loop-left.left = omega arith in (
      omega arith,
      omega arith,
      c.lower.ensures.1,
      after-step c.args.k (c.loop-left.left - 1) c.loop-left.values _ (omega arith) c.lower.ensures.0 ∙ rw one c.loop-left.invariant.3,
    )

pub returns : goal.returns
returns c =
    let one : c.loop-left.left ≡ 1 = omega arith in
    same _ (c.loop-left.invariant.2.each 0) ∙ sym (after_last c.args.k c.loop-left.values) ∙ (rw one at c.loop-left.invariant.3)
