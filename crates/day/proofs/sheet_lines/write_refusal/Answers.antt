-- `day::sheet_lines::write_refusal` meets its contract. Assumes nothing.
use mathlib.Core.List.{[]}
use native.Mathlib.Omega.{arith}
use lib.ListN.{length-set}
use Rattle.spell.specs.Decimal.{named}
use Rattle.spell.proofs.Writing.{written_none, written-first, written-within, written_then}
use Rattle.day.specs.sheet_lines.Lines.{refusal_line}
use Rattle.day.proofs.sheet_lines.write_refusal.Goals as goal

pub shape_of-out : goal.shape_of-out
shape_of-out c = simp length-set (omega arith)

pub returns : goal.returns
unfolding refusal_line named
returns c =
    written-within _ _ _ _ _ _
    (written_then _ _ _ _ _ _ 1 _ _ _
    (written_then _ _ _ _ _ _ 21 _ _ _
    (written_then _ _ _ _ _ _ 20 _ _ _ c.write_bytes-a.ensures c.write_natural-b.ensures)
    c.write_next_natural-c.ensures)
    (written-first 0 _ _ [] _ _ _ (written_none 0 _ _ [] [] 0))) _ (omega arith)
