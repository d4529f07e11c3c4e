-- `replies::write_numbers` meets its contract: the numbers passed are written, the rest is still as it was. Assumes nothing.
use mathlib.Core.Path.{◌≡◌}
use lib.ListN.{take}
use Rattle.wire.specs.Words.{number_bytes}
use Rattle.replies.specs.Reply.{over}
use Rattle.replies.proofs.write_numbers.Given as goal

abbrev pub invariant-loop-k : goal.invariant-loop-k
invariant-loop-k l = l.bytes ≡ over (number_bytes (take l.k l.numbers)) l.initial.bytes
