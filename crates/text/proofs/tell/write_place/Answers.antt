-- `text::tell::write_place` meets its contract: its five parts one after the other. Assumes nothing.
use Rattle.text.specs.tell.Tell.{placed}
use Rattle.spell.proofs.Writing.{written_then}
use Rattle.text.proofs.tell.write_place.Goals as goal

pub returns : goal.returns
unfolding placed
returns c =
    written_then _ _ _ _ _ _ _ _ _ _
    (written_then _ _ _ _ _ _ _ _ _ _
    (written_then _ _ _ _ _ _ _ _ _ _
    (written_then _ _ _ _ _ _ _ _ _ _ c.write_bytes-a.ensures c.write_natural-b.ensures)
    c.write_bytes-c.ensures)
    c.write_natural-d.ensures)
    c.write_bytes.ensures
