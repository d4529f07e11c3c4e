-- `replies::write_head` meets its contract: eight bytes, one place after the other. Assumes nothing.
use native.Mathlib.Omega.{arith}
use lib.ListN.{length-set}
use Rattle.replies.proofs.Replies.{head-written}
use Rattle.replies.proofs.write_head.Goals as goal

pub bounds-reply-5 : goal.bounds-reply-5
bounds-reply-5 c = simp length-set (omega arith)

pub bounds-reply-6 : goal.bounds-reply-6
bounds-reply-6 c = simp length-set (omega arith)

pub bounds-reply-7 : goal.bounds-reply-7
bounds-reply-7 c = simp length-set (omega arith)

pub shape_of-reply : goal.shape_of-reply
shape_of-reply c = simp length-set (omega arith)

pub returns : goal.returns
returns c =
    rw (c.put_word-2.ensures, c.put_word.ensures) (head-written c.args.a c.args.size c.args.reply.now (omega arith))
