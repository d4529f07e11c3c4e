-- `whole::settled` meets its contract: half or more of d takes one more, less than half none. Assumes nothing.
use mathlib.Core.Path.{◌∙◌}
use Rattle.whole.proofs.Halves.{goes-there}
use Rattle.whole.proofs.settled.Goals as goal

pub returns : goal.returns
returns c =
    let a = c.args in
    let u = c.more.ensures in
    c.further.ensures ∙ goes-there a.n.0 a.d a.q.0 a.m c.requires _ u.0 u.1
