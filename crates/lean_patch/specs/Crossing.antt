-- The contract of `lean_patch`, for every input: that of `patch`, with the answer in three words. Assumes nothing.
use Rattle.std.specs.Prelude.{◌≡◌, cond, List, ℕ, ltb, ℤ, length}
use Rattle.crossing.specs.Answered.{with_answer}
use Rattle.patch_net.specs.Patch.{Patch}
use Rattle.patch_net.specs.Refusal.{answer}
use Rattle.patch_net.specs.Afterwards.{exact_after, points_after}

-- exact, points and words are the arrays as they were lent; where there is no room for the answer nothing is written
pub record Crosses (p : Patch) (exact points : List ℤ) (words : List ℕ) (code : ℕ) (exact' points' : List ℤ) (words' : List ℕ) : Type 0 where
  pub code_is : code ≡ cond (ltb (length words) 3) 1 0
  pub exact_is : exact' ≡ cond (ltb (length words) 3) exact (exact_after p exact points)
  pub points_is : points' ≡ cond (ltb (length words) 3) points (points_after p exact points)
  pub words_is : words' ≡ cond (ltb (length words) 3) words (with_answer (answer p (length exact) (length points)) words)
