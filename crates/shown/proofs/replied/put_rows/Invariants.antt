-- `shown::replied::put_rows` meets its contract. Assumes nothing.
use Prim.Native.Nat.{◌-◌}
use Rattle.shown.specs.Replied.{rows_text}
use Rattle.page.proofs.Putting.{Onward}
use Rattle.shown.proofs.replied.put_rows.Given as goal

abbrev pub invariant-loop-k : goal.invariant-loop-k
invariant-loop-k l = Onward (rows_text l.a l.b 0 l.count) l.initial.paper l.paper (rows_text l.a l.b l.k (l.count - l.k))
