-- `door::tally::take` meets its contract: the numbers count a pair by a function. Assumes nothing.
use mathlib.Core.Path.{ap, ◌∙◌}
use Rattle.door.specs.Contract.{reply_of}
use Rattle.feed.proofs.Taking.{gathers}
use Rattle.fives.specs.Count.{counts}
use Rattle.door.specs.tally.Read.{after_part}
use Rattle.door.proofs.tally.Reading.{reader-is}
use Rattle.door.proofs.tally.take.Goals as goal

pub returns : goal.returns
unfolding after_part
returns c =
    reader-is _ _ _ _ (gathers (counts reply_of) _ (λ s pair s' a. a.met ∙ ap (counts reply_of s) a.shows) c.take-rest.ensures)
