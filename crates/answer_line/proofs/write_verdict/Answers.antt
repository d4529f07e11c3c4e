-- `answer_line::write_verdict` meets its contract: the four numbers one after the other. Assumes nothing.
use Rattle.answer_line.specs.Answer.{verdict}
use Rattle.spell.proofs.Writing.{written_then}
use Rattle.answer_line.proofs.write_verdict.Goals as goal

pub returns : goal.returns
unfolding verdict
returns c =
    written_then 62 _ _ _ _ _ 21 _ _ _
    (written_then 41 _ _ _ _ _ 21 _ _ _ c.write_judged-a.ensures c.write_next_natural-b.ensures)
    c.write_next_natural.ensures
