-- `renewal::converter::refused` meets its contract. Assumes nothing.
use mathlib.Core.Path.{ap, ◌∙◌}
use Rattle.aging.specs.Convert.{ends_long}
use Rattle.renewal.proofs.converter.refused.Goals as goal

pub returns : goal.returns
returns c = c.ends_long.ensures ∙ ap ends_long c.kept.ensures
