-- `crate::tick_line::write_told` meets its contract: the line of the answer's three numbers. Assumes nothing.
use Rattle.asking.specs.tick_line.Line.{tick_answer}
use Rattle.asking.proofs.tick_line.write_told.Goals as goal

pub returns : goal.returns
unfolding tick_answer
returns c =
    rw (← c.reading_of.ensures) c.write_reading.ensures
