-- `salvaging::saver::size_kept` meets its contract. Assumes nothing.
use mathlib.Core.Path.{sym, ◌∙◌}
use borrow.Author.Tests.{ne_eqb}
use Rattle.salvaging.proofs.saver.Deciding.{good_by, good_unlike, kept_some, kept_none}
use Rattle.salvaging.proofs.saver.size_kept.Goals as goal
use Rattle.salvaging.proofs.saver.size_kept.Goals.{else-n-ne0-via-then-n-ne0+then-of_kind+else-agree, else-n-ne0-via-then-n-ne0+else-of_kind, else-n-ne0-via-else-n-ne0}

pub returns-then-agree : goal.returns-then-agree
returns-then-agree c =
    kept_some _ _ _ _ c.pair_size-n.ensures
    (good_by _ _ _ _ c.pair_size-n.ensures _ c.record_in.ensures
    ∙ rw (ne_eqb _ _ c.if-n-ne0.true, sym c.of_kind.ensures ∙ c.if-of_kind.true, sym c.agree.ensures ∙ c.if-agree.true))

pub returns-else-n-ne0 : goal.returns-else-n-ne0
returns-else-n-ne0 c =
    elim c.else-n-ne0.branch [
      | else-n-ne0-via-then-n-ne0+then-of_kind+else-agree w ↦
          kept_none _ _ _
          (good_by _ _ _ _ c.pair_size-n.ensures _ w.record_in.ensures
          ∙ rw (ne_eqb _ _ w.if-n-ne0.true, sym w.of_kind.ensures ∙ w.if-of_kind.true, sym w.agree.ensures ∙ w.if-agree.false))
      | else-n-ne0-via-then-n-ne0+else-of_kind w ↦
          kept_none _ _ _
          (good_by _ _ _ _ c.pair_size-n.ensures _ w.record_in.ensures
          ∙ rw (ne_eqb _ _ w.if-n-ne0.true, sym w.of_kind.ensures ∙ w.if-of_kind.false))
      | else-n-ne0-via-else-n-ne0 w ↦
          kept_none _ _ _ (good_unlike _ _ _ _ c.pair_size-n.ensures w.if-n-ne0.false)
    ]
