-- `entries::entry::first_difference` meets its contract. Assumes nothing.
use Rattle.shown.proofs.entries.Telling.{Alike}
use Rattle.shown.proofs.entries.entry.first_difference.Given as goal

abbrev pub invariant-loop-i : goal.invariant-loop-i
invariant-loop-i l = Alike l.a l.b l.i
