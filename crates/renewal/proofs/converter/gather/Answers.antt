-- `renewal::converter::gather` meets its contract. Assumes nothing.
use mathlib.Core.Path.{sym, ap, ◌∙◌}
use borrow.Author.Tests.{eq-eqb, ne_eqb}
use Rattle.feed.specs.Feed.{given}
use Rattle.aging.specs.Convert.{ageless}
use Rattle.renewal.proofs.converter.Leaves.{counts_some, counts-none}
use Rattle.renewal.proofs.converter.gather.Goals as goal
use Rattle.renewal.proofs.converter.gather.Goals.{else-size-ne0-via-then-size-ne0+else-ageless, else-size-ne0-via-else-size-ne0}

pub returns-then-ageless : goal.returns-then-ageless
unfolding given
returns-then-ageless c =
    let is = ap ageless (sym c.record_in.ensures) ∙ sym c.ageless.ensures ∙ c.if-ageless.true in
    rw (ne_eqb _ _ c.if-size-ne0.true) (c.more.ensures ∙ sym (counts_some _ _ is))

pub returns-else-size-ne0 : goal.returns-else-size-ne0
unfolding given
returns-else-size-ne0 c =
    elim c.else-size-ne0.branch [
      | else-size-ne0-via-then-size-ne0+else-ageless w ↦
          let is = ap ageless (sym w.record_in.ensures) ∙ sym w.ageless.ensures ∙ w.if-ageless.false in
          rw (ne_eqb _ _ w.if-size-ne0.true) (sym (counts-none _ _ is))
      | else-size-ne0-via-else-size-ne0 w ↦ rw (eq-eqb _ _ w.if-size-ne0.false)
    ]
