-- `renewal::converter::fill` meets its contract: the bytes of the part before i were taken, and what they put out stands in the buffer.
-- Assumes nothing.
use mathlib.Core.Path.{sym}
use native.Mathlib.Omega.{arith}
use lib.ListN.{length-take, length-drop}
use Rattle.feed.proofs.Reading.{handed-long}
use Rattle.renewal.proofs.converter.Turning.{none_filled, same-room, turn-handing, turn-fits, turn-filled, turn-within, all-filled}
use Rattle.renewal.proofs.converter.fill.Goals as goal

pub loop-i-init : goal.loop-i-init
loop-i-init c = none_filled _ _ _

pub slice_bounds-put_turn-end : goal.slice_bounds-put_turn-end
slice_bounds-put_turn-end c = sym (handed-long _ (simp (length-take, length-drop) (omega arith)) c.next-turn.ensures).0

pub put_turn-at-requires : goal.put_turn-at-requires
put_turn-at-requires c =
    let loop = c.loop-i in (
      turn-handing _ _ loop.changed loop.invariant c.loop-i-test.true c.next-turn.ensures,
      turn-fits _ _ loop.changed loop.invariant c.loop-i-test.true c.next-turn.ensures c.requires.0 c.requires.1,
    )

pub slice_bounds-gather-end : goal.slice_bounds-gather-end
slice_bounds-gather-end c = sym (handed-long _ (simp (length-take, length-drop) (omega arith)) c.next-turn.ensures).0

pub gather-changed-requires : goal.gather-changed-requires
gather-changed-requires c = (handed-long _ (simp (length-take, length-drop) (omega arith)) c.next-turn.ensures).1

pub overflow_add-i : goal.overflow_add-i
overflow_add-i c =
    let loop = c.loop-i in
    omega (
      arith,
      (turn-within _ _ loop.changed loop.invariant c.loop-i-test.true c.next-turn.ensures
          ).1,
    )

pub loop-i-smaller : goal.loop-i-smaller
loop-i-smaller c =
    let loop = c.loop-i in
    let went = turn-within _ _ loop.changed loop.invariant c.loop-i-test.true c.next-turn.ensures in
    omega (arith, went.0, went.1)

pub loop-i-preserved : goal.loop-i-preserved
loop-i-preserved c =
    let loop = c.loop-i in
    turn-filled _ _ loop.changed loop.invariant c.loop-i-test.true c.next-turn.ensures c.put_turn-at.ensures c.gather-changed.ensures

pub shape_of-out : goal.shape_of-out
shape_of-out c = same-room c.loop-i.invariant

pub returns : goal.returns
returns c =
    all-filled c.args.converter _ _ _ c.loop-i.invariant c.loop-i-test.false c.requires.0 c.requires.1 c.settle.ensures
