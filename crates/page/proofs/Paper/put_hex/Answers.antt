-- `page::Paper::put_hex` meets its contract. Assumes nothing.
use Rattle.page.specs.Page.{hexed}
use Rattle.page.proofs.Putting.{adds_then, adds-same, digits_are}
use Rattle.page.proofs.Paper.put_hex.Goals as goal

pub returns : goal.returns
unfolding hexed
returns c = adds_then _ _ _ _ _ c.put.ensures
    (adds-same _ _ _ _ c.put-2.ensures (digits_are _ _ _ _ _ c.digit.ensures c.digit-2.ensures c.digit-3.ensures c.digit-4.ensures))
