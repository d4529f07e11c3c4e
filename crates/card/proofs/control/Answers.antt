-- `card::control` meets its contract. Assumes nothing.
use mathlib.Core.Path.{◌∙◌, ap}
use Rattle.floats.specs.Float.{float}
use Rattle.card.proofs.control.Goals as goal

pub returns : goal.returns
returns c = c.of_travel.ensures ∙ ap float c.travel_at.ensures
