-- `text::tell::tell` meets its contract: the place and then the reason. Assumes nothing.
use Rattle.text.specs.tell.Tell.{complaint}
use Rattle.spell.proofs.Writing.{written_then}
use Rattle.text.proofs.tell.tell.Goals as goal

pub returns : goal.returns
unfolding complaint
returns c =
    rw (← c.unwrap_or.ensures) (written_then _ _ _ _ _ _ _ _ _ _ c.write_place-at.ensures c.write_reason.ensures)
