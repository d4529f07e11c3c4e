-- `entries::entry::behind` meets its contract. Assumes nothing.
use native.Mathlib.Omega.{arith}
use Rattle.shown.proofs.entries.Telling.{lengths-told, byte-told, point-told}
use Rattle.shown.proofs.entries.entry.behind.Goals as goal

pub returns-then-a-b : goal.returns-then-a-b
returns-then-a-b c = lengths-told _ _ _ _ c.if-a-b.true

pub returns-then-d-lt8 : goal.returns-then-d-lt8
returns-then-d-lt8 c = byte-told _ _ _ _ c.if-a-b.false _ c.first_difference-d.ensures (omega arith) (omega arith)

pub returns : goal.returns
returns c = point-told _ _ _ _ c.if-a-b.false _ c.first_difference-d.ensures (omega arith) (omega arith) (omega arith)
