-- `crate::patch_line::reply` meets its contract: refused, or the answer to the patch that was read. Assumes nothing.
use mathlib.Core.Path.{sym, ◌∙◌}
use native.Mathlib.Omega.{arith}
use Rattle.text.proofs.kinds.Owed.{replies-refused, replies-said}
use Rattle.asking.specs.patch_line.Line.{spoken}
use Rattle.asking.proofs.patch_line.Behind.{surface-size, path-size, fits, line_is}
use Rattle.asking.proofs.patch_line.reply.Goals as goal

pub returns-then-is_some : goal.returns-then-is_some
unfolding spoken
returns-then-is_some c =
    let read = c.read_patch-reading.ensures in
    replies-refused _ _ _ _ read.cursor read.inside (omega (arith, read.inside.end)) (sym c.is_some.ensures ∙ c.if-is_some.true)

pub slice_bounds-reply_read-end : goal.slice_bounds-reply_read-end
slice_bounds-reply_read-end c = surface-size _ _ _ _ _ c.read_patch-reading.ensures

pub slice_bounds-reply_read-end-2 : goal.slice_bounds-reply_read-end-2
slice_bounds-reply_read-end-2 c = path-size _ _ _ _ _ c.read_patch-reading.ensures

pub reply_read-requires : goal.reply_read-requires
reply_read-requires c = fits _ _ _ _ _ c.read_patch-reading.ensures _ (omega arith)

pub returns : goal.returns
unfolding spoken
returns c =
    let read = c.read_patch-reading.ensures in
    let short = c.requires.1 in
    replies-said _ _ _ _ read.cursor read.inside (omega (arith, read.inside.end, short)) (sym c.is_some.ensures ∙ c.if-is_some.false) _ _
    (rw (← line_is _ _ _ _ _ read) c.reply_read.ensures)
