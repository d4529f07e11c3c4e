-- The two ways that a call ends, by its contract: no room for its words, or what the reading itself answers, in words.
-- Assumes nothing.
use mathlib.Core.Path.{◌≡◌}
use mathlib.Core.List.{List}
use Prim.Native.Nat.{ℕ, ◌≤◌, ◌<◌}
use lib.IntN.{ℤ}
use lib.ListN.{length}
use borrow.Author.Tests.{lt-ltb, le-ltb}
use Rattle.tick.specs.declared.Tick.{Tick}
use Rattle.tick.specs.Told.{told}
use Rattle.lean_tick.specs.Ticked.{with_tick, Ticked}

module _ (points : List ℤ) (k : ℕ) (words : List ℤ) where
  pub no_words : length words < 3 → Ticked points k words 1 words
  no_words short = let t = lt-ltb _ _ short in record { code_is = rw t; words_is = rw t }

  pub told_in : (a : Tick) → 3 ≤ length words → a ≡ told points k → Ticked points k words 0 (with_tick a words)
  told_in a enough is = let t = le-ltb _ _ enough in record { code_is = rw t; words_is = rw (t, is) }
