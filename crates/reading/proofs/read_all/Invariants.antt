-- `reading::read_all` meets its contract: the parts so far were read, and taken. Assumes nothing.
use denote.Param.Always.{always_mut}
use Rattle.reading.specs.Parts.{Reads, TakenAt}
use Rattle.reading.proofs.read_all.Given as goal

abbrev pub invariant-loop : goal.invariant-loop
invariant-loop g l = (always_mut g.G.FnMut l.initial.goes_on → always_mut g.G.FnMut l.goes_on)
    × Reads (TakenAt g.T.Fn l.take) l.initial.input l.initial.state l.input l.state
