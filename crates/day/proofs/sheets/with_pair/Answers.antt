-- `sheets::with_pair` meets its contract: a pair's reply. Assumes nothing.
use mathlib.Core.Path.{ap, ◌∙◌}
use Rattle.wire.specs.Start.{record_in}
use Rattle.day.specs.sheets.Fold.{with_reply}
use Rattle.day.proofs.sheets.Leaves.{adds-is}
use Rattle.day.proofs.sheets.with_pair.Goals as goal

pub returns : goal.returns
returns c =
    let reply = c.record_in.ensures ∙ ap record_in c.behind.ensures in
    c.with_reply.ensures ∙ ap (with_reply _) reply ∙ adds-is _ _
