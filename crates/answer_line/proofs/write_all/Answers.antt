-- `answer_line::write_all` meets its contract: the numbers so far are written. Assumes nothing.
use Rattle.std.proofs.Common.{◌<◌, ap, sym, ◌∙◌, length, map, pos}
use Rattle.std.proofs.Math.ListN.{length-map}
use Rattle.std.proofs.lemmas.List.{get_or-map}
use Rattle.answer_line.proofs.Listing.{listing_none, listing-more, listing-all}
use Rattle.answer_line.proofs.write_all.Goals as goal

pub loop-n-init : goal.loop-n-init
loop-n-init g c = listing_none _ _ _ _

pub loop-n-preserved : goal.loop-n-preserved
loop-n-preserved g c =
    let value = g.T.Number.value in
    let inside : c.loop-n.n-index < length (map value c.args.list.now) = simp length-map c.loop-n-test.true in
    let here = get_or-map value c.args.list.now c.loop-n.n-index c.n-item.result (pos 0) c.loop-n-test.true ∙ ap value (sym c.n-item.is) in
    listing-more _ _ _ _ _ _ _ c.loop-n.invariant inside _ _ c.write_next-end.auto.out (rw (← here) at c.write_next-end.ensures)

pub returns : goal.returns
returns g c = rw length-map at (listing-all _ _ _ _ _ _ _ c.loop-n.invariant (simp length-map c.loop-n-test.false))
