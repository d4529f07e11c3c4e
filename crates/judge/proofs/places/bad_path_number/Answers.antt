-- `judge::places::bad_path_number` meets its contract: what is found is the least. Assumes nothing.
use Rattle.std.proofs.Common.{◌≡◌, ℕ, Bool, true, false, pos, get_or, rules}
use Rattle.std.proofs.lemmas.Iterator.{first_from_Range}
use Rattle.request.specs.units.Bounds.{beyond_path}
use Rattle.request.specs.Refusal.{parameter_place}
use Rattle.judge.proofs.Searching.{finds}
use Rattle.judge.proofs.places.bad_path_number.Goals as goal

pub returns : goal.returns
unfolding parameter_place
returns c =
    let bad : ℕ → Bool = λ k. beyond_path (get_or c.args.path.now k (pos 0)) in
    finds _ bad _ (first_from_Range _ _ _ _ (λ k. bad k ≡ true) (λ k. bad k ≡ false) c.find.ensures.ran (λ x q k. search rules) (λ x q k. (search rules, search rules)))
