-- `renewal::carry_all` meets its contract: the parts so far were carried. Assumes nothing.
use Rattle.renewal.specs.Carried.{Carries}
use Rattle.renewal.proofs.carry_all.Given as goal

abbrev pub invariant-loop : goal.invariant-loop
invariant-loop l =
    Carries l.wanted l.initial.night.input l.initial.night.out l.initial.night.converter l.night.input l.night.out l.night.converter
