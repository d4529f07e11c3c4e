-- The sheet as a fold of the pairs: what one pair more adds to it. Assumes nothing.
use Rattle.std.specs.Prelude.{cond, List, ℕ, suc, ◌+◌, ltb, get_or, set, replicate}
use Rattle.pairs.specs.Cut.{Pair}
use Rattle.feed.specs.Feed.{capped}
use Rattle.day.specs.declared.sheets.Sheet.{Sheet}
use Rattle.day.specs.sheets.Sheet.{number_of, greatest, is_odd, points_in, widened_all, no_span}

-- one more of a number, where there is a place for it
unfoldable pub counted_up : List ℕ → ℕ → List ℕ
counted_up counts n = cond (ltb n (suc greatest)) (set counts n (capped (get_or counts n 0 + 1))) counts

-- one reply more
unfoldable pub with_reply : Sheet → List ℕ → Sheet
with_reply s reply =
    cond (is_odd reply) (record { odd = capped (s.odd + 1); refusals = s.refusals; span = s.span })
    (record {
      odd = s.odd;
      refusals = counted_up s.refusals (number_of reply);
      span = widened_all s.span (points_in reply);
    })

unfoldable pub adds : Sheet → Pair → Sheet
adds s pair = with_reply s pair.reply

abbrev pub no_sheet : Sheet
no_sheet = record { odd = 0; refusals = replicate (suc greatest) 0; span = no_span }
