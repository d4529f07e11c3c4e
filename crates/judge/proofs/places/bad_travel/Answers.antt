-- `judge::places::bad_travel` meets its contract: what is found is the least. Assumes nothing.
use Rattle.std.proofs.Common.{◌≡◌, ℕ, Bool, true, false, pos, get_or, rules}
use Rattle.std.proofs.lemmas.Iterator.{first_from_Range}
use Rattle.request.specs.units.Bounds.{beyond_travel}
use Rattle.request.specs.Refusal.{value_place}
use Rattle.judge.proofs.Searching.{finds}
use Rattle.judge.proofs.places.bad_travel.Goals as goal

pub returns : goal.returns
unfolding value_place
returns c =
    let bad : ℕ → Bool = λ k. beyond_travel (get_or c.args.surface.now k (pos 0)) in
    finds _ bad _ (first_from_Range _ _ _ _ (λ k. bad k ≡ true) (λ k. bad k ≡ false) c.find.ensures.ran (λ x q k. search rules) (λ x q k. (search rules, search rules)))
