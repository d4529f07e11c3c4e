-- `request::not_degree` meets its contract. A first degree above 4 is above 4 with any second degree added, so the sum is
-- tested only where it is small. Assumes nothing.
use mathlib.Core.Bool.{or-true}
use native.Mathlib.Omega.{arith}
use borrow.Author.Tests.{lt-ltb}
use Rattle.std.proofs.Common.{rules}
use Rattle.request.specs.Head.{most_degree, most_n, degree}
use Rattle.request.specs.Refusal.{not_degree}
use Rattle.request.proofs.Forms.{first-le, small-tensor, small-outer}
use Rattle.request.proofs.not_degree.Goals as goal
use Rattle.request.proofs.not_degree.Goals.{then-head-gt-MOST_DEGREE-via-then-head-gt-MOST_DEGREE, then-head-gt-MOST_DEGREE-via-else-head-gt-MOST_DEGREE+then-head-gt-MOST_N}

pub returns-then-head-gt-MOST_DEGREE : goal.returns-then-head-gt-MOST_DEGREE
unfolding not_degree
returns-then-head-gt-MOST_DEGREE c = elim c.then-head-gt-MOST_DEGREE.branch [
  | then-head-gt-MOST_DEGREE-via-then-head-gt-MOST_DEGREE w ↦ rw (lt-ltb most_degree (degree c.args.head) (omega (arith, first-le c.args.head)))
  | then-head-gt-MOST_DEGREE-via-else-head-gt-MOST_DEGREE+then-head-gt-MOST_N w ↦ simp (lt-ltb most_n c.args.head.N (omega arith), or-true)
]

pub returns-in-2 : goal.returns-in-2
returns-in-2 c = small-tensor _ c.in-2.is (omega arith) (omega arith)

pub returns-in_default : goal.returns-in_default
returns-in_default c = small-outer _ (search rules) (omega arith) (omega arith)
