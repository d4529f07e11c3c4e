-- The replay's five numbers, of the whole trace. They are over any door, a function from a request to its reply, and over
-- the greatest length of a record. Laws in proofs/Numbers.antt. Assumes nothing.
use Rattle.std.specs.Prelude.{Bool, true, false, not, cond, ◌&&◌, List, [], ◌∷◌, ℕ, suc, eqb, length}
use Rattle.pairs.specs.Cut.{Pair, cut}
use Rattle.feed.specs.Feed.{capped, how_many}
use Rattle.fives.specs.declared.Five.{Five}

-- byte for byte, over the whole length
unfoldable pub same_bytes : List ℕ → List ℕ → Bool
same_bytes [] [] = true
same_bytes [] (b ∷ t) = false
same_bytes (a ∷ s) [] = false
same_bytes (a ∷ s) (b ∷ t) = eqb a b && same_bytes s t

-- "It asks the door afresh and compares bytes."
unfoldable pub agrees : (List ℕ → List ℕ) → Pair → Bool
agrees door pair = same_bytes (door pair.request) pair.reply

unfoldable pub differs : (List ℕ → List ℕ) → Pair → Bool
differs door pair = not (agrees door pair)

-- the number of the first of which the test is true, where the next one is number k; 0 where there is none
unfoldable pub first_from : ℕ → (Pair → Bool) → List Pair → ℕ
first_from k test [] = 0
first_from k test (pair ∷ pairs) = cond (test pair) k (first_from (suc k) test pairs)

-- "`first` counts from 1, or is 0 if none differs"; "from that pair's start the bytes are `rest`"
unfoldable pub five : ℕ → (List ℕ → List ℕ) → List ℕ → Five
five most door bytes =
    let pairs = (cut most bytes).pairs in
    record {
      calls = length pairs;
      same = how_many (agrees door) pairs;
      differ = how_many (differs door) pairs;
      first = first_from 1 (differs door) pairs;
      rest = length (cut most bytes).left;
    }

-- the numbers are counted in 64 bits and stay at the greatest of these; in a trace of fewer than 2^64 bytes none is so
-- great (`exact` in proofs/Numbers.antt)
unfoldable pub capped_five : Five → Five
capped_five f =
    record {
      calls = capped f.calls;
      same = capped f.same;
      differ = capped f.differ;
      first = capped f.first;
      rest = capped f.rest;
    }
