-- `card::filled` meets its contract: each turn fills one place. Assumes nothing.
use Rattle.card.specs.Steps.{Filled}
use Rattle.card.proofs.filled.Given as goal

abbrev pub invariant-loop-R : goal.invariant-loop-R
invariant-loop-R l = Filled l.net l.m l.R l.u l.v l.out
