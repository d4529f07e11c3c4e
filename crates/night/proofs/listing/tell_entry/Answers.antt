-- `night::listing::tell_entry` meets its contract. Assumes nothing.
use Rattle.night.proofs.listing.Telling.{told-alike, told_line}
use Rattle.night.proofs.listing.tell_entry.Goals as goal

pub returns-then-unchanged : goal.returns-then-unchanged
returns-then-unchanged c = told-alike _ _ _ _ _ _ _ c.if-unchanged.true

pub returns : goal.returns
returns c = told_line _ _ _ _ _ _ _ _ c.if-unchanged.false c.tell_line.ensures
