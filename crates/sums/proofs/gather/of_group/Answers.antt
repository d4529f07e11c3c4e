use borrow.Author.Tests.{lt-ltb, le-ltb}
use Rattle.sums.specs.gather.Owed.{of_group}
use Rattle.sums.proofs.gather.of_group.Goals as goal

pub returns-then-left-second : goal.returns-then-left-second
unfolding of_group
returns-then-left-second c = rw (le-ltb _ _ c.if-left-second.true)

pub returns : goal.returns
unfolding of_group
returns c = rw (lt-ltb _ _ c.if-left-second.false)
