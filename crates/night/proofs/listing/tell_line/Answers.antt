-- `night::listing::tell_line` meets its contract. Assumes nothing.
use mathlib.Core.Path.{refl}
use Rattle.night.proofs.listing.Telling.{paged, some-line}
use Rattle.night.proofs.listing.tell_line.Goals as goal

pub returns : goal.returns
returns c = paged _ _ _ _ _ _ _ (some-line _ _ _ _ _) refl c.put_entry-n.ensures c.front.ensures c.write.ensures
