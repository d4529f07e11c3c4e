-- `night::listing::next_offset` meets its contract. Assumes nothing.
use Rattle.night.proofs.listing.next_offset.Goals as goal

pub returns : goal.returns
returns c = rw (← c.sum.ensures) c.sum-2.ensures
