-- `answer_line::write_reading` meets its contract: number, place, reading and a newline. Assumes nothing.
use mathlib.Core.List.{[]}
use native.Mathlib.Omega.{arith}
use Rattle.answer_line.specs.Answer.{reading_line}
use Rattle.spell.proofs.Writing.{written_none, written-first, written-within, written_then}
use Rattle.answer_line.proofs.write_reading.Goals as goal

pub returns : goal.returns
unfolding reading_line
returns c =
    written-within 63 _ _ _ _ _
    (written_then 62 _ _ _ _ _ 1 _ _ _
    (written_then 41 _ _ _ _ _ 21 _ _ _ c.write_judged-next.ensures
    c.write_next-b.ensures)
    (written-first 0 _ _ [] _ _ _ (written_none 0 _ _ [] [] 0))) 4096 (omega arith)
