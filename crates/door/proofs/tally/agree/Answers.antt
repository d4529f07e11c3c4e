-- `door::tally::agree` meets its contract. Assumes nothing.
use mathlib.Core.Path.{ap, ◌∙◌}
use Rattle.wire.specs.Start.{record_in}
use Rattle.door.proofs.tally.Asking.{agreed}
use Rattle.door.proofs.tally.agree.Goals as goal

pub returns : goal.returns
returns c =
    let request = c.record_in-request.ensures in
    let reply = c.record_in-reply.ensures ∙ ap record_in c.behind.ensures in
    agreed _ _ _ _ request reply c.is_today.ensures
