-- The reader of the five numbers: a fold of the pairs. What a part does is defined for every reader, also for one that no
-- reading makes. That a reader has the five numbers of what it took is in proofs/Reading.antt. Assumes nothing.
use Rattle.std.specs.Prelude.{List, ℕ}
use Rattle.door.specs.Contract.{reply_of}
use Rattle.pairs.specs.Cut.{longest_record}
use Rattle.feed.specs.Feed.{Feed, blank, stepped, held_of, feed_in}
use Rattle.feed.specs.Parts.{fed}
use Rattle.fives.specs.declared.Five.{Five}
use Rattle.fives.specs.declared.Tally.{Tally}
use Rattle.fives.specs.Replay.{five, capped_five}
use Rattle.fives.specs.Count.{counts, no_pairs}
use Rattle.door.specs.declared.tally.Reader.{Reader}

-- what the replay of a trace answers
unfoldable pub replayed : List ℕ → Five
replayed bytes = capped_five (five longest_record reply_of bytes)

-- what a byte does
abbrev pub step : Feed Tally → ℕ → Feed Tally
step = stepped longest_record (counts reply_of)

-- what a reader holds, and the reader that holds it and nothing else
abbrev pub feed_of : Reader → Feed Tally
feed_of reader = feed_in reader.held reader.rest reader.tally

unfoldable pub reader_of : Feed Tally → Reader
reader_of s = record { held = held_of s.kept; rest = s.rest; tally = s.gathered }

-- the reader that has read nothing, and after a part
unfoldable pub blank_reader : Reader
blank_reader = reader_of (blank no_pairs)

unfoldable pub after_part : Reader → List ℕ → Reader
after_part reader part = reader_of (fed step (feed_of reader) part)

-- the numbers that a reader has
unfoldable pub five_in : Reader → Five
five_in reader =
    let tally = reader.tally in
    record { calls = tally.calls; same = tally.same; differ = tally.differ; first = tally.first; rest = reader.rest }
