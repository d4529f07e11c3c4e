-- `answer_line::write_judged` meets its contract: both numbers one after the other. Assumes nothing.
use Rattle.answer_line.specs.Answer.{judged}
use Rattle.spell.proofs.Writing.{written_then}
use Rattle.answer_line.proofs.write_judged.Goals as goal

pub returns : goal.returns
unfolding judged
returns c =
    written_then 20 _ _ _ _ _ 21 _ _ _ (rw c.from.ensures at c.write_natural-a.ensures) c.write_next_natural.ensures
