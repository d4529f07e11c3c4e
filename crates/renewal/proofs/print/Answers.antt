-- `renewal::print` meets its contract. Assumes nothing.
use native.Mathlib.Omega.{arith}
use lib.ListN.{length-take}
use Rattle.renewal.proofs.Carrying.{printed}
use borrow.Author.Rules.{rules}
use Rattle.renewal.proofs.print.Goals as goal

pub slice_bounds-line-end : goal.slice_bounds-line-end
slice_bounds-line-end c = omega (arith, c.write_verdict-n.ensures.small)

pub slice_bounds-write-end : goal.slice_bounds-write-end
slice_bounds-write-end c = simp length-take (omega (arith, c.write_verdict-n.ensures.small))

pub returns : goal.returns
returns c = printed (search rules) c.write_verdict-n.ensures c.write.ensures
