-- `door::tally::new` meets its contract. Assumes nothing.
use mathlib.Core.Path.{refl}
use Rattle.feed.specs.Feed.{blank, held_of}
use Rattle.door.specs.tally.Read.{blank_reader, reader_of}
use Rattle.door.proofs.tally.new.Goals as goal

pub returns : goal.returns
unfolding blank_reader reader_of held_of blank
returns c = rw c.no_pairs.ensures refl
