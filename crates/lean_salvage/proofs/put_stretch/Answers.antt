-- `lean_salvage::put_stretch` meets its contract: five words, one after the other. Assumes nothing.
use Rattle.lean_salvage.specs.Salvaged.{with_stretch}
use Rattle.lean_salvage.proofs.put_stretch.Goals as goal

pub returns : goal.returns
unfolding with_stretch
returns c =
    rw (c.put-5.ensures, c.put-4.ensures, c.put-3.ensures, c.put-2.ensures, c.put.ensures)
