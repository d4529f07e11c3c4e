-- `judge::places::uneven_point` meets its contract: what is found is the least. Assumes nothing.
use Rattle.std.proofs.Common.{◌≡◌, true, false, rules}
use Rattle.std.proofs.lemmas.Iterator.{first_from_Range}
use Rattle.request.specs.Refusal.{uneven}
use Rattle.judge.proofs.Searching.{finds}
use Rattle.judge.proofs.places.uneven_point.Goals as goal

pub returns : goal.returns
returns c =
    let bad = uneven c.args.path.now in
    finds _ bad _ (first_from_Range _ _ _ _ (λ k. bad k ≡ true) (λ k. bad k ≡ false) c.find.ensures.ran (λ x q k. search rules) (λ x q k. (search rules, search rules)))
