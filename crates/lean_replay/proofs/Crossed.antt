-- The two ways that a call ends, by its contract: no room for its words, or what the replay itself answers, in words.
-- Assumes nothing.
use mathlib.Core.Path.{◌≡◌}
use mathlib.Core.List.{List}
use Prim.Native.Nat.{ℕ, ◌≤◌, ◌<◌}
use lib.ListN.{length, set}
use borrow.Author.Tests.{lt-ltb, le-ltb}
use Rattle.fives.specs.declared.Five.{Five}
use Rattle.door.specs.tally.Read.{replayed}
use Rattle.lean_replay.specs.Replayed.{with_five, Replayed}

module _ (bytes words : List ℕ) where
  pub no_room : length words < 5 → Replayed bytes words 1 words
  no_room short = let t = lt-ltb _ _ short in record { code_is = rw t; words_is = rw t }

  pub wrote : (f : Five) (one two three four five : List ℕ) → 5 ≤ length words → f ≡ replayed bytes
      → one ≡ set words 0 f.calls → two ≡ set one 1 f.same → three ≡ set two 2 f.differ → four ≡ set three 3 f.first
      → five ≡ set four 4 f.rest → Replayed bytes words 0 five
  unfolding with_five
  wrote f one two three four five enough is a b c d e =
      let t = le-ltb _ _ enough in
      record { code_is = rw t; words_is = rw (t, ← is, e, d, c, b, a) }
