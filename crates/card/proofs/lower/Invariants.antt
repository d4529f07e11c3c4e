-- `card::lower` meets its contract: each turn makes one place. Assumes nothing.
use mathlib.Core.Path.{◌≡◌}
use lib.ListN.{length}
use Rattle.card.specs.Steps.{Lowered}
use Rattle.card.proofs.lower.Given as goal

abbrev pub invariant-loop-i : goal.invariant-loop-i
invariant-loop-i l = (length l.out ≡ 5) × Lowered l.net l.i l.u l.out
