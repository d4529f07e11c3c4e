-- `text::tell::write_quoted` meets its contract: its four parts one after the other. Assumes nothing.
use native.Mathlib.Omega.{arith}
use Rattle.text.specs.tell.Tell.{quoted}
use Rattle.spell.proofs.Writing.{written_then, written-within}
use Rattle.text.proofs.tell.write_quoted.Goals as goal

pub returns : goal.returns
unfolding quoted
returns c =
    written-within _ _ _ _ _ _
    (written_then _ _ _ _ _ _ _ _ _ _
    (written_then _ _ _ _ _ _ _ _ _ _
    (written_then _ _ _ _ _ _ _ _ _ _ c.write_bytes-a.ensures c.write_bytes-b.ensures)
    c.write_bytes-c.ensures)
    c.write_bytes.ensures) 4132 (omega arith)
