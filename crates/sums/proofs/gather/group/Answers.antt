use mathlib.Core.Path.{refl}
use native.Mathlib.Omega.{arith}
use borrow.Author.Tests.{lt-ltb, le-ltb}
use Rattle.sums.specs.gather.Owed.{group_at}
use Rattle.sums.proofs.gather.group.Goals as goal

pub returns-then-second-left : goal.returns-then-second-left
unfolding group_at
returns-then-second-left c = rw (lt-ltb _ _ c.if-second-left.true) (refl, omega arith)

pub returns-else-second-left : goal.returns-else-second-left
unfolding group_at
returns-else-second-left c = rw (le-ltb _ _ c.if-second-left.false) (refl, omega arith)
