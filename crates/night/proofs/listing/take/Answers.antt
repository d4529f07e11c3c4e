-- `night::listing::take` meets its contract: pairs were told one after the other. Assumes nothing.
use borrow.Author.Rules.{rules}
use Rattle.pairs.specs.Cut.{pair_in}
use Rattle.door.specs.Contract.{reply_of}
use Rattle.night.specs.listing.Tale.{tells}
use Rattle.night.specs.listing.Contract.{Adds}
use Rattle.night.proofs.listing.Reading.{taken}
use Rattle.night.proofs.listing.take.Goals as goal

pub returns : goal.returns
returns c = taken _ _ (λ s pair s' a.
    let told : Adds (λ t. tells reply_of c.args.wanted t (pair_in a.shown.now)) s s' = search rules in
    rw a.shows at told) (search rules) c.take-rest.ensures
