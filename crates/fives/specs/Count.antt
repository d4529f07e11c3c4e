-- The numbers of pairs, and how one pair more is counted. Assumes nothing.
use Rattle.std.specs.Prelude.{Bool, cond, List, ℕ, ◌+◌, eqb, length}
use Rattle.pairs.specs.Cut.{Pair}
use Rattle.feed.specs.Feed.{capped, how_many}
use Rattle.fives.specs.Replay.{agrees, differs, first_from}
use Rattle.fives.specs.declared.Tally.{Tally}

-- the numbers of pairs
unfoldable pub tally_of : (List ℕ → List ℕ) → List Pair → Tally
tally_of door pairs =
    record {
      calls = capped (length pairs);
      same = capped (how_many (agrees door) pairs);
      differ = capped (how_many (differs door) pairs);
      first = capped (first_from 1 (differs door) pairs);
    }

-- one more pair, which agrees or differs
unfoldable pub counted : Tally → Bool → Tally
counted t agree =
    record {
      calls = capped (t.calls + 1);
      same = cond agree (capped (t.same + 1)) t.same;
      differ = cond agree t.differ (capped (t.differ + 1));
      first = cond agree t.first (cond (eqb t.first 0) (capped (t.calls + 1)) t.first);
    }

unfoldable pub counts : (List ℕ → List ℕ) → Tally → Pair → Tally
counts door t pair = counted t (agrees door pair)

abbrev pub no_pairs : Tally
no_pairs = record { calls = 0; same = 0; differ = 0; first = 0 }
