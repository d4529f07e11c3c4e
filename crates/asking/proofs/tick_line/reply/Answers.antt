-- `crate::tick_line::reply` meets its contract: refused, or the reading of the points that were read. Assumes nothing.
use mathlib.Core.Path.{sym, ◌∙◌}
use lib.Seq.{length-take-le}
use native.Mathlib.Omega.{arith}
use Rattle.text.proofs.kinds.Owed.{replies-refused, replies-said}
use Rattle.asking.specs.tick_line.Line.{spoken}
use Rattle.asking.proofs.tick_line.Behind.{points-fit, answer-is}
use Rattle.asking.proofs.tick_line.reply.Goals as goal

pub returns-then-is_some : goal.returns-then-is_some
unfolding spoken
returns-then-is_some c =
    let read = c.read_tick-reading.ensures in
    replies-refused _ _ _ _ read.cursor read.inside (omega (arith, read.inside.end)) (sym c.is_some.ensures ∙ c.if-is_some.true)

pub slice_bounds-points-end : goal.slice_bounds-points-end
slice_bounds-points-end c = points-fit _ _ _ _ c.read_tick-reading.ensures

pub slice_bounds-read-end : goal.slice_bounds-read-end
slice_bounds-read-end c = sym (length-take-le _ _ (points-fit _ _ _ _ c.read_tick-reading.ensures))

pub returns : goal.returns
unfolding spoken
returns c =
    let read = c.read_tick-reading.ensures in
    let short = c.requires.1 in
    replies-said _ _ _ _ read.cursor read.inside (omega (arith, read.inside.end, short)) (sym c.is_some.ensures ∙ c.if-is_some.false) _ _
    (rw (← answer-is _ _ _ _ read _ c.read-told.ensures) c.write_told.ensures)
