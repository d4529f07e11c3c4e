-- `asking::read_all` meets its contract: the parts so far were read and answered. Assumes nothing.
use mathlib.Core.Path.{◌≡◌}
use lib.ListN.{length}
use Rattle.asking.specs.Asked.{Read}
use Rattle.asking.proofs.read_all.Given as goal

abbrev pub invariant-loop : goal.invariant-loop
invariant-loop l =
    (length l.part ≡ length l.initial.part) × (length l.line ≡ length l.initial.line)
    × Read (record { name = l.how.name.now; by_names = l.how.by_names }) l.initial.line l.initial.turn.input l.initial.turn.state l.line l.turn.input l.turn.state
