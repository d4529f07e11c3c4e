-- The two ways that a call ends, by its contract: no room for its words, or what `patch` itself answers, in words. Assumes nothing.
use mathlib.Core.Path.{◌≡◌}
use mathlib.Core.List.{List}
use Prim.Native.Nat.{ℕ, ◌≤◌, ◌<◌}
use lib.IntN.{ℤ}
use lib.ListN.{length}
use borrow.Author.Tests.{lt-ltb, le-ltb}
use Rattle.request.specs.declared.Answer.{Answer}
use Rattle.crossing.specs.Answered.{with_answer}
use Rattle.patch_net.specs.Patch.{Patch}
use Rattle.patch_net.specs.Afterwards.{Patched}
use Rattle.lean_patch.specs.Crossing.{Crosses}

module _ (p : Patch) (exact points : List ℤ) (words : List ℕ) where
  pub untouched : length words < 3 → Crosses p exact points words 1 exact points words
  untouched short =
      let t = lt-ltb _ _ short in
      record { code_is = rw t; exact_is = rw t; points_is = rw t; words_is = rw t }

  pub answered : (a : Answer) (exact' points' : List ℤ) (three : List ℕ) → 3 ≤ length words → Patched p exact points a exact' points'
      → three ≡ with_answer a words → Crosses p exact points words 0 exact' points' three
  answered a exact' points' three enough patched third =
      let t = le-ltb _ _ enough in
      record {
        code_is = rw t;
        exact_is = rw t patched.exact_is;
        points_is = rw t patched.points_is;
        words_is = rw (t, ← patched.answered, third);
      }
