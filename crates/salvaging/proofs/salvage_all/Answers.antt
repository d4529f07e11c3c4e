-- `salvaging::salvage_all` meets its contract: a read or a write failed, or all is decided and written. Assumes nothing.
use mathlib.Core.Path.{sym, ◌∙◌}
use Rattle.salvaging.proofs.Streaming.{broken, ended}
use Rattle.salvaging.proofs.salvage_all.Goals as goal

pub returns-then-is_broken : goal.returns-then-is_broken
returns-then-is_broken c = rw c.left.ensures (broken _ _ _ _ _ _ c.read_all-turn.ensures.reads (sym c.is_broken.ensures ∙ c.if-is_broken.true))

pub returns : goal.returns
returns c = rw c.left-2.ensures (ended _ _ _ _ _ _ c.read_all-turn.ensures.reads _ _ _ c.settle-settled.ensures.0 c.settle-settled.ensures.1 c.finish.ensures)
