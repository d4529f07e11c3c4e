-- `page::byte_shown` meets its contract. Assumes nothing.
use Rattle.page.proofs.Putting.{byte-is}
use Rattle.page.proofs.byte_shown.Goals as goal

pub returns : goal.returns
returns c = byte-is _ _ _ _ c.digit.ensures c.digit-2.ensures
