-- The two ways that a call ends, by its contract: no room for its words, or what the composer itself answers, in words.
-- Assumes nothing.
use mathlib.Core.Path.{◌≡◌}
use mathlib.Core.List.{List}
use Prim.Native.Nat.{ℕ, ◌≤◌, ◌<◌}
use lib.ListN.{length, set}
use borrow.Author.Tests.{lt-ltb, le-ltb}
use Rattle.request.specs.Request.{Request}
use Rattle.compose.specs.declared.Composition.{Composition}
use Rattle.compose.specs.Afterwards.{Arrays}
use Rattle.compose.specs.Contract.{Composed}
use Rattle.crossing.specs.Answered.{with_answer}
use Rattle.lean_compose.specs.Exported.{with_entries, Exported}

module _ (rq : Request) (age : ℕ) (lent : Arrays) (words : List ℕ) where
  pub untouched : length words < 4 → Exported rq age lent words 1 lent words
  untouched short =
      let t = lt-ltb _ _ short in
      record { code_is = rw t; high_is = rw t; low_is = rw t; points_is = rw t; words_is = rw t }

  pub answered : (c : Composition) (left : Arrays) (three four : List ℕ) → 4 ≤ length words → Composed rq age lent c left
      → three ≡ with_answer c.answer words → four ≡ set three 3 c.entries → Exported rq age lent words 0 left four
  unfolding with_entries
  answered c left three four enough composed third fourth =
      let t = le-ltb _ _ enough in
      record {
        code_is = rw t;
        high_is = rw t composed.high_is;
        low_is = rw t composed.low_is;
        points_is = rw t composed.points_is;
        words_is = rw (t, ← composed.answered, ← composed.counted, fourth, third);
      }
