-- `door::tally::finish` meets its contract. Assumes nothing.
use Rattle.door.specs.tally.Read.{five_in}
use Rattle.door.proofs.tally.finish.Goals as goal

pub returns : goal.returns
unfolding five_in
returns c = c.five_of.ensures
