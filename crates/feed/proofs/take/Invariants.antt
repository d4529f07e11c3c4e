-- `feed::take` meets its contract: pairs were added, and what is left feeds on. Assumes nothing.
use lib.ListN.{length}
use Rattle.feed.specs.Takes.{Adds}
use Rattle.feed.proofs.Taking.{Going}
use Rattle.feed.proofs.take.Given as goal

abbrev pub invariant-loop-left : goal.invariant-loop-left
invariant-loop-left g l =
    Going (Adds g.F.Fn l.add) l.initial.held l.initial.rest l.initial.state l.part l.held l.rest l.state l.left

abbrev pub decreases-loop-left : goal.decreases-loop-left
decreases-loop-left g l = length l.left
