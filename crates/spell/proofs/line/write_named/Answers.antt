-- `spell::line::write_named` meets its contract: the name, the number and a newline. Assumes nothing.
use mathlib.Core.List.{[]}
use lib.ListN.{length-set}
use native.Mathlib.Omega.{arith}
use Rattle.spell.specs.Decimal.{named}
use Rattle.spell.proofs.Writing.{written_none, written-first, written-within, written_then}
use Rattle.spell.proofs.line.write_named.Goals as goal

pub shape_of-out : goal.shape_of-out
shape_of-out c = simp length-set (omega arith)

pub returns : goal.returns
unfolding named
returns c =
    written-within _ _ _ _ _ _
    (written_then _ _ _ _ _ _ 1 _ _ _
    (written_then _ _ _ _ _ _ 21 _ _ _ c.write_bytes-a.ensures
    c.write_next_natural-b.ensures)
    (written-first 0 _ _ [] _ _ _ (written_none 0 _ _ [] [] 0))) _ (omega arith)
