-- `sums::travel` meets its contract: the number of the travel that is read. Assumes nothing.
use mathlib.Core.Path.{◌∙◌}
use Rattle.sums.proofs.travel.Goals as goal

pub returns : goal.returns
returns c = c.units_of.ensures ∙ c.travel_at.ensures
