-- `lean_card::lean_card` meets its contract: the card's own, with its record and its answer in lent arrays. Assumes nothing.
use native.Mathlib.Omega.{arith}
use Rattle.std.proofs.Common.{rules}
use Rattle.lean_card.specs.Driven.{not_called}
use Rattle.lean_card.proofs.Drove.{not-driven, driven}
use Rattle.lean_card.proofs.lean_card.Goals as goal

pub returns-then-words-lt3 : goal.returns-then-words-lt3
unfolding not_called
returns-then-words-lt3 c = not-driven _ _ _ _ (search rules)

pub returns : goal.returns
returns c =
    let shows = rw c.part_of.ensures at c.drive-card.ensures.shows in
    driven _ _ _ _ _ _ _ _ _ (omega arith) (omega arith) (omega arith) shows (search rules)
    (search rules) c.put-2.ensures c.put-3.ensures
