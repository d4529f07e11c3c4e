-- `renewal::converter::fill` meets its contract: the bytes of the part before i were taken, and what they put out stands in the buffer.
-- Assumes nothing.
use Prim.Native.Nat.{◌-◌}
use lib.ListN.{length}
use Rattle.feed.specs.Feed.{feed_in}
use Rattle.renewal.proofs.converter.Turning.{Filling}
use Rattle.renewal.proofs.converter.fill.Given as goal

abbrev pub invariant-loop-i : goal.invariant-loop-i
invariant-loop-i l =
    Filling (feed_in l.initial.held l.initial.rest l.initial.changed) l.part l.initial.out (feed_in l.held l.rest l.changed) l.out l.i l.at

abbrev pub decreases-loop-i : goal.decreases-loop-i
decreases-loop-i l = length l.part - l.i
