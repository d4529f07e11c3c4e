-- `sums::gather::gap` meets its contract. Assumes nothing.
use mathlib.Core.Path.{refl}
use native.Mathlib.Omega.{arith}
use borrow.Author.Tests.{lt-ltb, le-ltb}
use Rattle.sums.specs.gather.Owed.{gap_at}
use Rattle.sums.proofs.gather.gap.Goals as goal

pub returns-then-second-left : goal.returns-then-second-left
unfolding gap_at
returns-then-second-left c = rw (lt-ltb _ _ c.if-second-left.true) (refl, omega arith)

pub returns-else-second-left : goal.returns-else-second-left
unfolding gap_at
returns-else-second-left c = rw (le-ltb _ _ c.if-second-left.false) (refl, omega arith)
