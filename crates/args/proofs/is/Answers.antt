-- `args::is` meets its contract. Assumes nothing.
use Rattle.std.proofs.Common.{sym, ◌∙◌}
use Rattle.args.proofs.Words.{alike-pointwise}
use Rattle.args.proofs.is.Goals as goal

pub returns : goal.returns
returns c = c.eq.ensures ∙ sym (alike-pointwise _ _)
