-- `shown::asked::put_kind` meets its contract. Assumes nothing.
use native.Mathlib.Omega.{arith}
use mathlib.Core.Logic.{inl, inr}
use Rattle.page.proofs.Putting.{adds_then, adds-same}
use Rattle.shown.proofs.Telling.{kind-end, kind-on}
use Rattle.shown.proofs.asked.put_kind.Goals as goal

pub returns-in-Plain : goal.returns-in-Plain
returns-in-Plain c =
    adds-same _ _ _ _ (adds_then _ _ _ _ _ (rw c.in-Plain.is at c.put_form.ensures) c.put_wish.ensures)
    (kind-on _ _ c.word_at.ensures.0 0 (rw c.in-Plain.is at c.kind_of-kind.ensures) (omega arith))

pub returns-in-Aged : goal.returns-in-Aged
returns-in-Aged c =
    adds-same _ _ _ _ (adds_then _ _ _ _ _ (rw c.in-Aged.is at c.put_form.ensures) c.put_wish-in-Aged.ensures)
    (kind-on _ _ c.word_at.ensures.0 1 (rw c.in-Aged.is at c.kind_of-kind.ensures) (omega arith))

pub returns-in-Short : goal.returns-in-Short
returns-in-Short c =
    elim c.in-Short.is [
      | inl e ↦ adds-same _ _ _ _ (rw e at c.put_form.ensures) (kind-end _ _ c.word_at.ensures.0 2 (rw e at c.kind_of-kind.ensures) (omega arith))
      | inr e ↦ adds-same _ _ _ _ (rw e at c.put_form.ensures) (kind-end _ _ c.word_at.ensures.0 3 (rw e at c.kind_of-kind.ensures) (omega arith))
    ]
