-- `renewal::converter::settled` meets its contract. Assumes nothing.
use Rattle.feed.specs.Parts.{fed}
use Rattle.renewal.specs.converter.Put.{after_part, converter_of}
use Rattle.renewal.proofs.converter.settled.Goals as goal

pub returns : goal.returns
unfolding after_part converter_of fed
returns c = rw c.settle.ensures
