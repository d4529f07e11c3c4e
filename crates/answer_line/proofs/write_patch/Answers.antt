-- `answer_line::write_patch` meets its contract: number, place and count, the lists and a newline. Assumes nothing.
use mathlib.Core.List.{[]}
use native.Mathlib.Omega.{arith}
use Rattle.answer_line.specs.Answer.{patch_line}
use Rattle.spell.proofs.Writing.{written_none, written-first, written-within, written_then}
use Rattle.answer_line.proofs.write_patch.Goals as goal

pub returns : goal.returns
unfolding patch_line
returns c =
    written-within 2755 _ _ _ _ _
    (written_then 2754 _ _ _ _ _ 1 _ _ _
    (written_then 62 _ _ _ _ _ 2692 _ _ _
    (written_then 41 _ _ _ _ _ 21 _ _ _ c.write_judged-a.ensures c.write_next_natural-b.ensures) c.write_both-c.ensures)
    (written-first 0 _ _ [] _ _ _ (written_none 0 _ _ [] [] 0))) 4096 (omega arith)
