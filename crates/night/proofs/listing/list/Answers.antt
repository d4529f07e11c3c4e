-- `night::listing::list` meets its contract. Assumes nothing.
use borrow.Author.Rules.{rules}
use Rattle.night.specs.listing.Contract.{Takes}
use Rattle.night.proofs.listing.Reading.{reads, told-all}
use Rattle.night.proofs.listing.list.Goals as goal

pub returns : goal.returns
returns c = told-all _ _ _ _ _ (reads _ _ (λ r part r' t.
    let took : Takes c.args.wanted r t.shown.now r' = search rules in
    rw t.shows at took) c.read_all.ensures) _ c.close.ensures
