-- `night::listing::ask` meets its contract: the door is asked afresh. Assumes nothing.
use mathlib.Core.Path.{refl, ap, ◌∙◌}
use native.Mathlib.Omega.{arith}
use lib.ListN.{length-take}
use Rattle.wire.specs.Start.{record_in}
use Rattle.door.proofs.tally.Asking.{replied, comparison}
use Rattle.night.proofs.listing.Telling.{adds-asked}
use Rattle.night.proofs.listing.ask.Goals as goal

pub slice_bounds-today-end : goal.slice_bounds-today-end
slice_bounds-today-end c = (replied c.door_reply-count.ensures refl).inside

pub slice_bounds-same-end : goal.slice_bounds-same-end
slice_bounds-same-end c = simp length-take (omega (arith, (replied c.door_reply-count.ensures refl).inside))

pub slice_bounds-today-end-2 : goal.slice_bounds-today-end-2
slice_bounds-today-end-2 c = (replied c.door_reply-count.ensures refl).inside

pub slice_bounds-entry-end : goal.slice_bounds-entry-end
slice_bounds-entry-end c =
    simp length-take (omega (arith, (replied c.door_reply-count.ensures refl).inside))

pub returns : goal.returns
returns c =
    let request = c.record_in-request.ensures in
    let reply = c.record_in-reply.ensures ∙ ap record_in c.behind.ensures in
    let today = replied c.door_reply-count.ensures refl in
    adds-asked _ _ _ _ _ _ _ _ _ _ _ request reply (comparison _ _ _ _ _ _ request reply today c.same-alike.ensures) today.front
    c.more-number.ensures c.next_offset.ensures c.differing.ensures c.tell-out.ensures
