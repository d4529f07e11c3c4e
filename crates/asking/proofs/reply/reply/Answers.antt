-- `crate::reply::reply` meets its contract: refused, or the answer to the request that was read. Assumes nothing.
use mathlib.Core.Path.{sym, ◌∙◌}
use native.Mathlib.Omega.{arith}
use Rattle.text.proofs.kinds.Owed.{replies-refused, replies-said}
use Rattle.asking.specs.reply.Reply.{spoken}
use Rattle.asking.proofs.reply.Replied.{surface-size, path-size, fits, line_is}
use Rattle.asking.proofs.reply.reply.Goals as goal

pub returns-then-is_some : goal.returns-then-is_some
unfolding spoken
returns-then-is_some c =
    let read = c.read_line-reading.ensures in
    replies-refused _ _ _ _ read.cursor read.inside read.short (sym c.is_some.ensures ∙ c.if-is_some.true)

pub slice_bounds-reply_read-end : goal.slice_bounds-reply_read-end
slice_bounds-reply_read-end c = surface-size _ _ _ _ c.read_line-reading.ensures

pub slice_bounds-reply_read-end-2 : goal.slice_bounds-reply_read-end-2
slice_bounds-reply_read-end-2 c = path-size _ _ _ _ c.read_line-reading.ensures

pub reply_read-requires : goal.reply_read-requires
reply_read-requires c = fits _ _ _ _ c.read_line-reading.ensures _ (omega arith)

pub returns : goal.returns
unfolding spoken
returns c =
    let read = c.read_line-reading.ensures in
    replies-said _ _ _ _ read.cursor read.inside read.short (sym c.is_some.ensures ∙ c.if-is_some.false) _ _
    (rw (← line_is _ _ _ _ read) c.reply_read.ensures)
