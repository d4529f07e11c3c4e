-- `salvaging::saver::write_skip` meets its contract. Assumes nothing.
use Rattle.spell.proofs.Writing.{written_then}
use Rattle.torn.specs.Lines.{skip_line}
use Rattle.salvaging.proofs.saver.write_skip.Goals as goal

pub returns : goal.returns
unfolding skip_line
returns c =
    let a = c.write_bytes-a.ensures in
    let b = written_then _ _ _ _ _ _ _ _ _ _ a c.write_next_natural-b.ensures in
    let d = written_then _ _ _ _ _ _ _ _ _ _ b c.write_next_natural-c.ensures in
    written_then _ _ _ _ _ _ _ _ _ _ d c.write_bytes.ensures
