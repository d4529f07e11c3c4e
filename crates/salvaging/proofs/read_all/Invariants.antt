-- `salvaging::read_all` meets its contract: the parts so far were read. Assumes nothing.
use mathlib.Core.List.{[]}
use Prim.Native.Nat.{◌≤◌}
use lib.ListN.{length, take}
use Rattle.salvaging.specs.Salvaging.{Reads}
use Rattle.salvaging.proofs.read_all.Given as goal

abbrev pub invariant-loop : goal.invariant-loop
invariant-loop l = record {
  within : l.turn.count ≤ length l.buffer;
  reads : Reads l.initial.turn.input [] l.initial.turn.state l.turn.input (take l.turn.count l.buffer) l.turn.state;
}
