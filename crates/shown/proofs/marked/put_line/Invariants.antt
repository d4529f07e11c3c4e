-- `shown::marked::put_line` meets its contract. Assumes nothing.
use mathlib.Core.List.{◌++◌}
use lib.ListN.{drop}
use Rattle.shown.specs.Text.{newline}
use Rattle.shown.specs.Replied.{marked_text}
use Rattle.page.proofs.Putting.{Onward}
use Rattle.shown.proofs.marked.put_line.Given as goal

abbrev pub invariant-loop-k : goal.invariant-loop-k
invariant-loop-k l = Onward (marked_text l.mark 0 l.bytes ++ newline) l.initial.paper l.paper (marked_text l.mark l.k (drop l.k
    l.bytes) ++ newline)
