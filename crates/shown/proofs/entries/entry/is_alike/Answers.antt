-- `entries::entry::is_alike` meets its contract. Assumes nothing.
use Rattle.shown.proofs.entries.entry.is_alike.Goals as goal

pub returns : goal.returns
returns c = rw (c.byte_at.ensures.0, c.byte_at-2.ensures.0)
