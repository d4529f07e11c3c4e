-- `renewal::write_verdict` meets its contract. Assumes nothing.
use native.Mathlib.Omega.{arith}
use Rattle.spell.proofs.Writing.{written-within}
use Rattle.renewal.specs.Verdict.{verdict}
use Rattle.renewal.proofs.write_verdict.Goals as goal

pub returns-then-refused : goal.returns-then-refused
unfolding verdict
returns-then-refused c = rw c.if-refused.true
    (written-within _ _ _ _ _ _ c.write_bytes.ensures _ (omega arith))

pub returns-else-refused : goal.returns-else-refused
unfolding verdict
returns-else-refused c = rw c.if-refused.false
    (written-within _ _ _ _ _ _ c.write_named.ensures _ (omega arith))
