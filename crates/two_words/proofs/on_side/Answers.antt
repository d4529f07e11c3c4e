-- `two_words::on_side` meets its contract, by the sign. Assumes nothing.
use Rattle.std.proofs.Common.{sym, ◌∙◌}
use Rattle.two_words.proofs.Dividing.{on-above, on_below}
use Rattle.two_words.proofs.on_side.Goals as goal

pub returns-then-negative : goal.returns-then-negative
returns-then-negative c =
    c.minus.ensures ∙ sym (on_below c.args.n.0 c.args.x (sym c.negative.ensures ∙ c.if-negative.true))

pub returns-else-negative : goal.returns-else-negative
returns-else-negative c =
    c.plus.ensures ∙ sym (on-above c.args.n.0 c.args.x (sym c.negative.ensures ∙ c.if-negative.false))
