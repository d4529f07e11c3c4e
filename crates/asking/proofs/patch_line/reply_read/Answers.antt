-- `crate::patch_line::reply_read` meets its contract: the arrays hold what the definition says. Assumes nothing.
use mathlib.Core.Path.{sym}
use lib.IntN.{negsuc}
use lib.ListN.{length-take}
use lib.Seq.{length-take-le}
use native.Mathlib.Omega.{arith}
use Rattle.asking.specs.patch_line.Read.{line_in}
use Rattle.text.proofs.rooms.Lent.{take-replicate}
use Rattle.asking.proofs.patch_line.reply_read.Goals as goal

pub slice_bounds-reply_in-end : goal.slice_bounds-reply_in-end
slice_bounds-reply_in-end c = sym (length-take-le _ _ (omega arith))

pub slice_bounds-reply_in-end-2 : goal.slice_bounds-reply_in-end-2
slice_bounds-reply_in-end-2 c = sym (length-take-le _ _ (omega arith))

pub slice_bounds-reply_in-end-3 : goal.slice_bounds-reply_in-end-3
slice_bounds-reply_in-end-3 c = sym (length-take-le _ _ (omega arith))

pub slice_bounds-reply_in-end-4 : goal.slice_bounds-reply_in-end-4
slice_bounds-reply_in-end-4 c = sym (length-take-le _ _ (omega arith))

pub reply_in-requires : goal.reply_in-requires
reply_in-requires c =
    let room = c.requires.enough in
    (simp length-take (omega arith), simp length-take (omega arith), room)

pub returns : goal.returns
unfolding line_in
returns c =
    let fits = c.requires in
    rw (← take-replicate _ 64 (negsuc 6) fits.exact, ← take-replicate _ 64 (negsuc 8) fits.points) c.reply_in.ensures
