-- `tick::half` meets its contract, on either side of zero. Assumes nothing.
use mathlib.Core.Path.{sym, ◌∙◌}
use Rattle.tick.proofs.Sizes.{half-below, half-above}
use Rattle.tick.proofs.half.Goals as goal

pub returns-then-negative : goal.returns-then-negative
returns-then-negative c =
    c.minus.ensures ∙ half-below c.args.n.0 (sym c.negative.ensures ∙ c.if-negative.true)

pub returns-else-negative : goal.returns-else-negative
returns-else-negative c =
    c.plus.ensures ∙ half-above c.args.n.0 (sym c.negative.ensures ∙ c.if-negative.false)
