-- `whole::nearest` meets its contract: by division where d is a signed number, else with all of the numerator left.
-- Assumes nothing.
use mathlib.Core.Path.{sym}
use native.Mathlib.Omega.{arith}
use lib.Signed.{nat_abs-le}
use Rattle.whole.proofs.Rounding.{nearest-none}
use Rattle.whole.proofs.Halves.{by-division, all_left}
use Rattle.whole.proofs.nearest.Goals as goal

pub returns-then-d-eq0 : goal.returns-then-d-eq0
returns-then-d-eq0 c = rw c.if-d-eq0.true (sym (nearest-none c.args.n.0))

pub settled-requires : goal.settled-requires
settled-requires c =
    let s = c.size.ensures in
    rw s.0 (all_left c.args.n.0 c.args.d (omega arith) (omega (arith, nat_abs-le c.args.n.0 s.1)))

pub settled-requires-2 : goal.settled-requires-2
settled-requires-2 c =
    rw (c.quotient-q.ensures, c.size-2.ensures.0, c.left.ensures) (by-division c.args.n.0 c.args.d (omega arith))
