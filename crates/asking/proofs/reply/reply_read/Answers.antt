-- `crate::reply::reply_read` meets its contract: the arrays hold what the definition says. Assumes nothing.
use mathlib.Core.Path.{sym}
use lib.IntN.{negsuc}
use lib.ListN.{length-take}
use lib.Seq.{length-take-le}
use native.Mathlib.Omega.{arith}
use Rattle.asking.specs.reply.Reply.{low_seven, line_in}
use Rattle.text.proofs.rooms.Lent.{take-replicate}
use Rattle.asking.proofs.reply.reply_read.Goals as goal

pub slice_bounds-reply_in-end : goal.slice_bounds-reply_in-end
slice_bounds-reply_in-end c = sym (length-take-le _ _ (omega arith))

pub slice_bounds-reply_in-end-2 : goal.slice_bounds-reply_in-end-2
slice_bounds-reply_in-end-2 c = sym (length-take-le _ _ (omega arith))

pub slice_bounds-reply_in-end-3 : goal.slice_bounds-reply_in-end-3
slice_bounds-reply_in-end-3 c = sym (length-take-le _ _ (omega arith))

pub slice_bounds-reply_in-end-4 : goal.slice_bounds-reply_in-end-4
slice_bounds-reply_in-end-4 c = sym (length-take-le _ _ (omega arith))

pub slice_bounds-reply_in-end-5 : goal.slice_bounds-reply_in-end-5
slice_bounds-reply_in-end-5 c = sym (length-take-le _ _ (omega arith))

pub reply_in-requires : goal.reply_in-requires
reply_in-requires c =
    let room = c.requires.enough in
    (record { alike = simp length-take; few = simp length-take (omega arith); few_points = simp length-take (omega arith) }, room)

pub returns : goal.returns
unfolding line_in
returns c =
    let fits = c.requires in
    rw (← take-replicate _ 64 (negsuc 0) fits.exact, ← take-replicate _ 64 low_seven fits.exact, ← take-replicate _ 64 (negsuc 8) fits.points)
    c.reply_in.ensures
