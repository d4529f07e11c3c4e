-- `page::Paper::put_byte` meets its contract. Assumes nothing.
use Rattle.page.proofs.Putting.{adds-same}
use Rattle.page.proofs.Paper.put_byte.Goals as goal

pub returns : goal.returns
returns c = adds-same _ _ _ _ c.put.ensures c.byte_shown-text.ensures
