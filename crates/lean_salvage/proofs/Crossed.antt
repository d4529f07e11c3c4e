-- The ways that a call ends, by its contract: no room, or what the look ahead itself answers, in words. Assumes nothing.
use mathlib.Core.Path.{◌≡◌}
use mathlib.Core.Bool.{true, false, not}
use mathlib.Core.List.{List}
use Prim.Native.Nat.{ℕ, ◌≤◌, ◌<◌}
use lib.Dec.{eqb}
use lib.ListN.{length, get_or}
use borrow.Author.Tests.{lt-ltb, le-ltb}
use Rattle.salvaging.specs.declared.saver.Stretch.{Stretch}
use Rattle.salvaging.specs.saver.Ahead.{line_room, stretch_of, Leaves}
use Rattle.lean_salvage.specs.Salvaged.{place_in, with_stretch, cramped, Salvaged}

module _ (window : List ℕ) (last : ℕ) (words line : List ℕ) where
  ends : cramped words line ≡ true → Salvaged window last words line 1 words line
  ends e = record { code_is = rw e; words_is = rw e; line_is = rw e }

  pub few_words : length words < 5 → Salvaged window last words line 1 words line
  unfolding cramped
  few_words short = ends (rw (lt-ltb _ _ short))

  module _ (enough : 5 ≤ length words) where
    pub short-line : length line < line_room → Salvaged window last words line 1 words line
    unfolding cramped
    short-line short = ends (rw (le-ltb _ _ enough, lt-ltb _ _ short))

    roomy : line_room ≤ length line → cramped words line ≡ false
    unfolding cramped
    roomy long = rw (le-ltb _ _ enough, le-ltb _ _ long)

    pub wrote : line_room ≤ length line → (r : Stretch) (line' words' : List ℕ)
        → Leaves (stretch_of (not (eqb last 0)) window (record { from = get_or words 0 0; lost = get_or words 1 0 }) line) line' r
        → words' ≡ with_stretch r words → Salvaged window last words line 0 words' line'
    unfolding place_in
    wrote long r line' words' leaves put =
        let t = roomy long in
        record {
          code_is = rw t;
          words_is = rw (t, ← leaves.stretch_is, put);
          line_is = rw t leaves.line_is;
        }
