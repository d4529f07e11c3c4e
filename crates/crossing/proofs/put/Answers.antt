-- `crossing::put` meets its contract: a place that is there is written, another is not. Assumes nothing.
use mathlib.Core.Path.{sym}
use native.Mathlib.Omega.{arith}
use lib.Seq.{set_out}
use Rattle.crossing.proofs.put.Goals as goal

pub returns-else-k-words : goal.returns-else-k-words
returns-else-k-words c = sym (set_out _ _ _ (omega arith))
