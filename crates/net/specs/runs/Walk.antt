-- The sum over all choices as the code walks it: non-decreasing runs of terms, extended one argument at a time. `begun` is how
-- many arguments were left when the run of the first term of the list began, `left` how many are left now. Assumes nothing.
use Rattle.std.specs.Prelude.{List, [], ◌∷◌, ℕ, zero, suc, ◌+◌, ℤ, pos, ◌+ℤ◌, ◌*ℤ◌}
use Rattle.whole.specs.Choose.{choose}
use Rattle.net.specs.Net.{Net}
use Rattle.net.specs.Blossom.{step}
use Rattle.net.specs.runs.Terms.{Term, Reading}

-- the first term once more, or its run is closed and the later terms have what is left: which of those arguments they
-- have can be chosen in (begun over left) ways
unfoldable pub walk : List Term → ℕ → ℕ → Reading → ℕ → Net → ℤ
walk T zero begun F s p = F s p
walk [] (suc left) begun F s p = pos 0
walk (t ∷ T) (suc left) begun F s p =
    pos t.weight *ℤ walk (t ∷ T) left begun F (s + t.key) (step t.argument p)
    +ℤ pos (choose begun (suc left)) *ℤ walk T (suc left) (suc left) F s p
