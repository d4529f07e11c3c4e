-- `asking::take_lines` meets its contract: what the part tells before `at` was told. Assumes nothing.
use mathlib.Core.Path.{refl}
use Prim.Native.Nat.{◌≤◌}
use lib.ListN.{length}
use Rattle.asking.proofs.answers.Parts.{takes-further}
use Rattle.asking.proofs.Telling.{carries-none, turn_more, part-over}
use native.Mathlib.Omega.{arith}
use Rattle.asking.proofs.take_lines.Goals as goal

pub loop-at-init : goal.loop-at-init
loop-at-init c = (refl, refl, refl, refl, carries-none _ _ _)

pub put-told-requires : goal.put-told-requires
put-told-requires c =
    let took = c.take-taken in
    let says = took.ensures.says in
    let sizes = took.auto in
    let loop = c.loop-at.invariant in
    let start = c.requires in (
      omega (arith, says.answer_fits, sizes.out),
      omega (arith, says.complaint_fits, sizes.err),
      omega (arith, sizes.out, loop.1, loop.3, start.2),
    )

pub loop-at-smaller : goal.loop-at-smaller
loop-at-smaller c =
    let loop = c.loop-at in
    let further = takes-further c.args.part.now loop.at loop.told.lines loop.line _ _ _ _ _ c.take-taken.result
    c.take-taken.ensures c.loop-at-test.true in
    omega (arith, further)

pub loop-at-preserved : goal.loop-at-preserved
loop-at-preserved c =
    let loop = c.loop-at in
    let further = takes-further c.args.part.now loop.at loop.told.lines loop.line _ _ _ _ _ c.take-taken.result
    c.take-taken.ensures c.loop-at-test.true in
    let inv = loop.invariant in
    let kept = c.take-taken.auto in
    let roomy : 8192 ≤ length loop.out = omega (arith, inv.1, c.requires.0) in
    let roomy' : 8192 ≤ length loop.err = omega (arith, inv.2, c.requires.1) in (
      omega (arith, inv.0, kept.line),
      omega (arith, inv.1, kept.out),
      omega (arith, inv.2, kept.err),
      omega (arith, inv.3),
      turn_more _ loop.at _ _ loop.line loop.out loop.err _ _ _ _ loop.told _ c.take-taken.result further inv.0
          inv.4 c.take-taken.ensures c.put-told.ensures roomy roomy',
    )

pub returns : goal.returns
returns c = part-over _ c.loop-at.at _ _ _ _ _ (omega arith) c.loop-at.invariant.4
