-- `fives::lines::write_lines` meets its contract. Assumes nothing.
use Rattle.spell.proofs.Writing.{written_then}
use Rattle.fives.specs.Lines.{five_lines}
use Rattle.fives.proofs.lines.write_lines.Goals as goal

pub returns : goal.returns
unfolding five_lines
returns c =
    let a = c.write_named-a.ensures in
    let b = written_then _ _ _ _ _ _ _ _ _ _ a
    c.write_named-b.ensures in
    let d = written_then _ _ _ _ _ _ _ _ _ _ b
    c.write_named-c.ensures in
    let e = written_then _ _ _ _ _ _ _ _ _ _ d
    c.write_named-d.ensures in
    written_then _ _ _ _ _ _ _ _ _ _ e c.write_named.ensures
