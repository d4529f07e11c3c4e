-- `text::kinds::begin` meets its contract: too long, or not. Assumes nothing.
use lib.ListN.{length}
use native.Mathlib.Omega.{arith}
use borrow.Author.Tests.{lt-ltb, le-ltb}
use Rattle.text.specs.kinds.Kinds.{longest_line, begun}
use Rattle.text.proofs.kinds.begin.Goals as goal

pub returns-then-line-gt4096 : goal.returns-then-line-gt4096
unfolding begun
returns-then-line-gt4096 c = record {
  is = rw (lt-ltb longest_line (length c.args.line.now) (omega arith));
  inside = record { order = omega arith; end = omega arith };
}

pub returns-else-line-gt4096 : goal.returns-else-line-gt4096
unfolding begun
returns-else-line-gt4096 c = record {
  is = rw (le-ltb longest_line (length c.args.line.now) (omega arith));
  inside = record { order = omega arith; end = omega arith };
}
