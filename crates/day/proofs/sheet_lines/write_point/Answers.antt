-- `day::sheet_lines::write_point` meets its contract. Assumes nothing.
use mathlib.Core.List.{[]}
use native.Mathlib.Omega.{arith}
use lib.ListN.{length-set}
use Rattle.spell.proofs.Writing.{written_none, written-first, written-within, written_then}
use Rattle.day.specs.sheet_lines.Lines.{point_line}
use Rattle.day.proofs.sheet_lines.write_point.Goals as goal

pub shape_of-out : goal.shape_of-out
shape_of-out c = simp length-set (omega arith)

pub returns : goal.returns
unfolding point_line
returns c =
    written-within _ _ _ _ _ _
    (written_then _ _ _ _ _ _ 1 _ _ _
    (written_then _ _ _ _ _ _ 20 _ _ _ c.write_bytes-a.ensures c.write_value-b.ensures)
    (written-first 0 _ _ [] _ _ _ (written_none 0 _ _ [] [] 0))) _ (omega arith)
