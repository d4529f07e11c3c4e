-- `text::pieces::keep_byte` meets its contract: the cases of its definition. Assumes nothing.
use mathlib.Core.Path.{sym, ◌∙◌}
use native.Mathlib.Omega.{arith}
use Rattle.text.proofs.pieces.Keeping.{keeps-room, keeps-none, keeps-blank, keeps-full}
use Rattle.text.proofs.pieces.keep_byte.Goals as goal
use Rattle.text.proofs.pieces.keep_byte.Goals.{else-kept-gt0-via-then-kept-gt0+else-is_blank, else-kept-gt0-via-else-kept-gt0}

pub returns-then-kept-line : goal.returns-then-kept-line
returns-then-kept-line c = keeps-room _ _ _ (omega arith) c.if-kept-line.true

pub returns-then-is_blank : goal.returns-then-is_blank
returns-then-is_blank c = keeps-blank _ _ _ (omega arith) c.if-kept-line.false (sym c.is_blank.ensures
    ∙ c.if-is_blank.true)

pub returns-else-kept-gt0 : goal.returns-else-kept-gt0
returns-else-kept-gt0 c =
    elim c.else-kept-gt0.branch [
      | else-kept-gt0-via-then-kept-gt0+else-is_blank w ↦ keeps-full _ _ _ (omega arith) c.if-kept-line.false (sym w.is_blank.ensures ∙ w.if-is_blank.false)
      | else-kept-gt0-via-else-kept-gt0 w ↦ keeps-none _ _ _ (omega arith) c.if-kept-line.false (omega arith)
    ]
