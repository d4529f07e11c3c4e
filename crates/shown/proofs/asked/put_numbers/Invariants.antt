-- `shown::asked::put_numbers` meets its contract. Assumes nothing.
use Prim.Native.Nat.{◌-◌}
use Rattle.shown.specs.Asked.{numbers_text}
use Rattle.page.proofs.Putting.{Onward}
use Rattle.shown.proofs.asked.put_numbers.Given as goal

abbrev pub invariant-loop-k : goal.invariant-loop-k
invariant-loop-k l = Onward (numbers_text l.request l.from 0 l.count) l.initial.paper l.paper (numbers_text l.request l.from l.k
    (l.count - l.k))
