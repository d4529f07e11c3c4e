-- `door::tally::replay` meets its contract. Assumes nothing.
use mathlib.Core.Path.{ap, ◌∙◌}
use Rattle.door.specs.tally.Read.{five_in}
use Rattle.door.proofs.tally.Reading.{numbers_of}
use Rattle.door.proofs.tally.replay.Goals as goal

pub returns : goal.returns
returns c = c.finish.ensures ∙ ap five_in (rw c.new.ensures at c.take.ensures) ∙ numbers_of _
