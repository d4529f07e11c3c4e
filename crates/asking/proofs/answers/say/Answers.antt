-- `asking::answers::say` meets its contract: passed over, unreadable, or answered. Assumes nothing.
use mathlib.Core.Path.{sym, ◌∙◌}
use native.Mathlib.Omega.{arith}
use Rattle.spell.proofs.Writing.{written-front}
use Rattle.text.proofs.kinds.Owed.{quotable}
use Rattle.asking.proofs.answers.Parts.{says-passed, says-wrong, says-right}
use Rattle.asking.proofs.answers.say.Goals as goal

pub returns-then-is_passed : goal.returns-then-is_passed
returns-then-is_passed c = says-passed _ _ _ _ (sym c.if-is_passed.true ∙ c.is_passed.ensures)

pub returns-in-Ok : goal.returns-in-Ok
returns-in-Ok c =
    says-right _ _ _ _ (sym c.if-is_passed.false ∙ c.is_passed.ensures) _ (omega (arith, c.requires.0)) _ c.in-Ok.ensures

pub tell-requires : goal.tell-requires
tell-requires c = (quotable _ _ _ _ _ c.in-Err.ensures, omega arith)

pub returns-in-Err : goal.returns-in-Err
returns-in-Err c =
    let room = c.requires in
    says-wrong _ _ _ _ (sym c.if-is_passed.false ∙ c.is_passed.ensures) _ (omega (arith, room.0)) _ c.in-Err.ensures _ _ _ _
    (omega (arith, c.unreadable.ensures.small, room.0))
    (omega (arith, c.tell.ensures.small, room.1))
    (written-front _ _ _ _ _ c.unreadable.ensures) (written-front _ _ _ _ _ c.tell.ensures)
