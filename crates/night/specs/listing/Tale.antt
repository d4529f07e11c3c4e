-- A night told pair by pair, over any door: which pairs are told, each with its number and the byte at which it begins, how many of
-- those that are asked for differ, and the line that closes the list. Assumes nothing.
use Rattle.std.specs.Prelude.{Bool, cond, ◌||◌, List, [], ◌++◌, ℕ, ◌+◌, eqb, length, take}
use Rattle.pairs.specs.Cut.{Pair, longest_record}
use Rattle.feed.specs.Feed.{capped, Feed, feed_of}
use Rattle.fives.specs.Replay.{agrees}
use Rattle.shown.specs.entries.Entry.{entry_line}
use Rattle.shown.specs.entries.Ending.{ending_line}
use Rattle.shown.specs.Page.{shown_page}

-- the room of a page; what has no room there is not told
abbrev pub page_room : ℕ
page_room = 16384

unfoldable pub on_page : List ℕ → List ℕ
on_page text = take page_room text

-- asked for is pair `wanted`, or each one where that is 0
unfoldable pub asked : ℕ → ℕ → Bool
asked wanted number = eqb wanted 0 || eqb wanted number

-- what is told of a pair: where each one is asked for, the line of one whose reply is not today's; otherwise the page of pair `wanted`
unfoldable pub told_of : ℕ → Bool → ℕ → ℕ → List ℕ → List ℕ → List ℕ → List ℕ
told_of wanted alike number offset request reply today =
    cond (eqb wanted 0)
    (cond alike [] (on_page (entry_line number offset request reply today)))
    (cond (eqb wanted number) (on_page (shown_page number offset request reply today)) [])

-- one more where a pair that is asked for differs
unfoldable pub differing : ℕ → Bool → ℕ → ℕ → ℕ
differing wanted alike number n = cond alike n (cond (asked wanted number) (capped (n + 1)) n)

-- how many pairs there were, the byte at which the next one begins, how many of those asked for differ, and all that was told
pub record Tale : Type 0 where
  pub calls : ℕ
  pub offset : ℕ
  pub differ : ℕ
  pub text : List ℕ

abbrev pub untold : Tale
untold = record { calls = 0; offset = 0; differ = 0; text = [] }

-- one pair more: it is told by its own number and the byte at which it begins
unfoldable pub tells : (List ℕ → List ℕ) → ℕ → Tale → Pair → Tale
tells door wanted t pair =
    let number = capped (t.calls + 1) in
    let alike = agrees door pair in
    record {
      calls = number;
      offset = capped (capped (t.offset + length pair.request) + length pair.reply);
      differ = differing wanted alike number t.differ;
      text = t.text ++ told_of wanted alike number t.offset pair.request pair.reply (door pair.request);
    }

-- of a whole trace, and what is left of it
unfoldable pub tale_of : (List ℕ → List ℕ) → ℕ → List ℕ → Feed Tale
tale_of door wanted bytes = feed_of longest_record (tells door wanted) untold bytes

-- the closing line: where each pair is asked for and the last read did not fail, where the reading ended and why
unfoldable pub closing : ℕ → Bool → ℕ → ℕ → List ℕ → List ℕ
closing wanted failed offset rest kept =
    cond (eqb wanted 0) (cond failed [] (on_page (ending_line offset rest kept))) []

-- what is written of a night in all
unfoldable pub written : ℕ → Bool → Feed Tale → List ℕ
written wanted failed s = s.gathered.text ++ closing wanted failed s.gathered.offset s.rest s.kept
