-- `replies::write_reply` meets its contract: the head is written, then the points behind it. Assumes nothing.
use native.Mathlib.Omega.{arith}
use Rattle.replies.proofs.Replies.{reply-length, reply-written}
use Rattle.replies.proofs.write_reply.Goals as goal

pub returns : goal.returns
returns c =
    record {
      counted = omega (arith, reply-length c.args.a c.args.points.now);
      written = reply-written c.args.a c.args.points.now _ _ _ _ (omega arith) (omega arith)
          c.write_head.ensures c.write_numbers.ensures;
    }
