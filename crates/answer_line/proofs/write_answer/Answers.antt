-- `answer_line::write_answer` meets its contract: the verdict, the lists and a newline. Assumes nothing.
use mathlib.Core.List.{[]}
use native.Mathlib.Omega.{arith}
use Rattle.answer_line.specs.Answer.{answer_line}
use Rattle.spell.proofs.Writing.{written_none, written-first, written-within, written_then}
use Rattle.answer_line.proofs.write_answer.Goals as goal

pub returns : goal.returns
unfolding answer_line
returns c =
    written-within 4084 _ _ _ _ _
    (written_then 4083 _ _ _ _ _ 1 _ _ _
    (written_then 83 _ _ _ _ _ 4000 _ _ _ c.write_verdict-a.ensures
    c.write_lists-b.ensures)
    (written-first 0 _ _ [] _ _ _ (written_none 0 _ _ [] [] 0))) 4096 (omega arith)
