-- `asking::answer_all` meets its contract: a read or a write failed, or the input ended. Assumes nothing.
use mathlib.Core.Path.{refl, sym, ◌∙◌}
use mathlib.Core.Bool.{true, false, false≢true}
use Rattle.asking.proofs.Telling.{answered, no-newline, last-newline}
use borrow.Author.Rules.{rules}
use Rattle.asking.proofs.answer_all.Goals as goal
use Rattle.asking.proofs.answer_all.Goals.{then-turn, else-turn, then-ended, else-ended}

pub returns : goal.returns
returns c =
    let told = c.read_all-turn in
    elim c.if-ended.branch [
      | then-ended w ↦ rw (w.told-is, w.if-ended.true)
          (answered _ _ _ _ _ _ _ _ told.ensures (search rules) told.auto.line _ _ true
          (last-newline _ _ _ _ _ w.take_part-told.ensures)
          (λ e f. refl))
      | else-ended w ↦ rw (w.told-is, w.if-ended.false)
          (answered _ _ _ _ _ _ _ _ told.ensures (search rules) told.auto.line _ _ false (no-newline _ _ _)
          (λ e f. elim c.if-turn.branch [
            | then-turn v ↦ absurd (false≢true (sym e ∙ v.if-turn.true))
            | else-turn v ↦ absurd (false≢true (sym (v.ended-is ∙ f) ∙ w.if-ended.false))
          ]))
    ]
