-- The contract of `lean_replay`, for every trace and every array of words. Assumes nothing.
use Rattle.std.specs.Prelude.{◌≡◌, cond, List, ℕ, ltb, length, set}
use Rattle.fives.specs.declared.Five.{Five}
use Rattle.door.specs.tally.Read.{replayed}

-- the five numbers, and every later word as it was
unfoldable pub with_five : Five → List ℕ → List ℕ
with_five f words = set (set (set (set (set words 0 f.calls) 1 f.same) 2 f.differ) 3 f.first) 4 f.rest

-- where there is no room for them nothing is written
pub record Replayed (bytes words : List ℕ) (code : ℕ) (words' : List ℕ) : Type 0 where
  pub code_is : code ≡ cond (ltb (length words) 5) 1 0
  pub words_is : words' ≡ cond (ltb (length words) 5) words (with_five (replayed bytes) words)
