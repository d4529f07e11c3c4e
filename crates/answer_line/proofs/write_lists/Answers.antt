-- `answer_line::write_lists` meets its contract: a bar before each list. Assumes nothing.
use native.Mathlib.Omega.{arith}
use Rattle.std.proofs.lemmas.List.{map-id}
use Rattle.answer_line.specs.Answer.{lists}
use Rattle.spell.proofs.Writing.{written-within, written_then}
use Rattle.answer_line.proofs.write_lists.Goals as goal

pub returns : goal.returns
unfolding lists
returns c =
    written-within _ _ _ _ _ _
    (written_then 2 _ _ _ _ _ _ _ _ _ c.write_bar-a.ensures
    (written_then _ _ _ _ _ _ _ _ _ _ c.write_numerators-b.ensures
    (written_then 2 _ _ _ _ _ _ _ _ _ c.write_bar-c.ensures (rw map-id at c.write_all.ensures)))) 4000 (omega arith)
