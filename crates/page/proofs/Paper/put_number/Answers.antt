-- `page::Paper::put_number` meets its contract. Assumes nothing.
use Rattle.page.specs.Page.{numbered}
use Rattle.page.proofs.Putting.{adds_then, adds-same, written_read, written-size}
use native.Mathlib.Omega.{arith}
use Rattle.page.proofs.Paper.put_number.Goals as goal

pub slice_bounds-put-end : goal.slice_bounds-put-end
slice_bounds-put-end c = written-size 20 _ _ _ _ c.write_number-size.ensures (omega arith)

pub returns : goal.returns
unfolding numbered
returns c = adds_then _ _ _ _ _ c.put.ensures (adds-same _ _ _ _ c.put-2.ensures (written_read 20 _ _ _ _ c.write_number-size.ensures (omega arith)))
