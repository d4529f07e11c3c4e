-- `feed::settle` meets its contract: what is kept, the zeros so far, and what still stands. Assumes nothing.
use mathlib.Core.Path.{◌≡◌}
use Prim.Native.Nat.{◌≤◌}
use Rattle.feed.proofs.Holding.{cleared}
use Rattle.feed.proofs.settle.Given as goal

abbrev pub invariant-loop-i : goal.invariant-loop-i
invariant-loop-i l = (l.start ≤ l.i) × (l.held ≡ cleared l.initial.held l.start l.i)
