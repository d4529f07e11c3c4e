-- `door::read_numbers` meets its contract: the places passed are read, the others are still as they were. Assumes nothing.
use mathlib.Core.Path.{◌≡◌}
use Rattle.compose.specs.Afterwards.{afterwards}
use Rattle.wire.specs.Words.{number_at}
use Rattle.door.proofs.read_numbers.Given as goal

abbrev pub invariant-loop-k : goal.invariant-loop-k
invariant-loop-k l = l.numbers ≡ afterwards l.k (number_at l.bytes l.from) l.initial.numbers
