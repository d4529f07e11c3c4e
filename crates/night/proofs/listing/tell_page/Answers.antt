-- `night::listing::tell_page` meets its contract. Assumes nothing.
use mathlib.Core.Path.{refl}
use Rattle.night.proofs.listing.Telling.{paged, some-page}
use Rattle.night.proofs.listing.tell_page.Goals as goal

pub returns : goal.returns
returns c = paged _ _ _ _ _ _ _ (some-page _ _ _ _ _) refl c.put_page-n.ensures c.front.ensures c.write.ensures
