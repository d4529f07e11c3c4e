-- `text::pieces::cut` meets its contract: what is left to cut, after what is kept, is the whole. Assumes nothing.
use native.Mathlib.Omega.{arith}
use Rattle.text.proofs.pieces.Keeping.{cutting-none, cutting-more, cuts-newline, cuts-end}
use Rattle.text.proofs.pieces.cut.Goals as goal

pub loop-i-init : goal.loop-i-init
loop-i-init c = (cutting-none _ _ _ _ _ c.min-end.ensures, omega arith)

pub returns-then-part-i-eq10 : goal.returns-then-part-i-eq10
returns-then-part-i-eq10 c = cuts-newline _ _ _ _ _ _ _ c.loop-i.invariant.0 (omega arith) c.if-part-i-eq10.true

pub loop-i-preserved : goal.loop-i-preserved
loop-i-preserved c = (
  cutting-more _ _ _ _ _ _ _ c.loop-i.invariant.0 (omega arith)
      c.if-part-i-eq10.false _ _ c.keep_byte-end.ensures,
  omega arith,
)

pub returns : goal.returns
returns c = cuts-end _ _ _ _ _ _ _ c.loop-i.invariant.0 c.loop-i-test.false _ (omega arith)
