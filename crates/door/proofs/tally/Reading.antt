-- Laws of the reader: it is the fold of the pairs of all that it took, and its five numbers are those of the whole.
-- Assumes nothing.
use mathlib.Core.Path.{◌≡◌, ap, ◌∙◌}
use mathlib.Core.List.{List}
use Prim.Native.Nat.{ℕ}
use native.Mathlib.Omega.{arith}
use Rattle.door.specs.Contract.{reply_of}
use Rattle.pairs.specs.Cut.{longest_record, cut}
use Rattle.feed.specs.Feed.{Feed, feed_of as fed_of}
use Rattle.feed.specs.Parts.{uncut, after_all}
use Rattle.feed.proofs.Reading.{Proper, held-again}
use Rattle.feed.proofs.Taking.{Holds}
use Rattle.feed.proofs.Readers.{at_once, in_parts}
use Rattle.fives.specs.declared.Tally.{Tally}
use Rattle.fives.specs.Replay.{five, capped_five}
use Rattle.fives.specs.Count.{tally_of, counts, no_pairs}
use Rattle.door.specs.tally.Read.{replayed, feed_of, reader_of, blank_reader, after_part, five_in}
use Rattle.fives.proofs.Numbers.{folded-tally}

-- a reader that has what a feed holds, and nothing else
pub reader-is : (held : List ℕ) (rest : ℕ) (tally : Tally) (s : Feed Tally) → Holds s held rest tally
    → record { held = held; rest = rest; tally = tally } ≡ reader_of s
unfolding reader_of
reader-is held rest tally s h = rw (h.held_is, h.rest_is, h.gathered_is)

-- what a reader holds that holds nothing else
holds-again : (s : Feed Tally) → Proper s → feed_of (reader_of s) ≡ s
unfolding reader_of
holds-again s e = held-again s e

-- the numbers of what was taken at once
five-is : (bytes : List ℕ) → five_in (reader_of (fed_of longest_record (counts reply_of) no_pairs bytes)) ≡ replayed bytes
unfolding reader_of five_in fed_of replayed capped_five five tally_of
five-is bytes = rw (folded-tally reply_of (cut longest_record bytes).pairs)

pub numbers_of : (bytes : List ℕ) → five_in (after_part blank_reader bytes) ≡ replayed bytes
unfolding after_part blank_reader
numbers_of bytes =
    ap five_in (at_once longest_record (counts reply_of) no_pairs feed_of reader_of holds-again (omega arith) bytes) ∙ five-is bytes

-- parts one after the other
pub reader-of-parts : (parts : List (List ℕ)) → after_all after_part blank_reader parts ≡ after_part blank_reader (uncut parts)
unfolding after_part blank_reader
reader-of-parts parts = in_parts longest_record (counts reply_of) no_pairs feed_of reader_of holds-again parts
