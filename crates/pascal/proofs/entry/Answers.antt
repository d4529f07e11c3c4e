-- `pascal::entry` meets its contract: a number of the table, or 0 where there is none. Assumes nothing.
use mathlib.Core.Path.{sym}
use native.Mathlib.Omega.{arith}
use Rattle.pascal.proofs.Entries.{entry_past, entry-above, told}
use Rattle.pascal.proofs.entry.Goals as goal
use Rattle.pascal.proofs.entry.Goals.{then-n-last-via-then-n-last, then-n-last-via-else-n-last+then-k-n}

pub returns-then-n-last : goal.returns-then-n-last
returns-then-n-last c =
    let a = c.args in
    elim c.then-n-last.branch [
      | then-n-last-via-then-n-last w ↦ sym (entry_past a.last a.n a.k (omega arith))
      | then-n-last-via-else-n-last+then-k-n w ↦ sym (entry-above a.last a.n a.k (omega arith))
    ]

pub returns : goal.returns
returns c =
    let a = c.args in
    told a.last a.n a.k _ _ (omega arith) (omega arith) (omega arith) c.place.ensures c.number.ensures
