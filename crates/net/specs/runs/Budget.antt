-- How much weight a walk still has to give: the same recursion over the weights alone. Assumes nothing.
use Rattle.std.specs.Prelude.{List, [], ◌∷◌, ℕ, zero, suc, ◌+◌, ◌*◌}
use Rattle.whole.specs.Choose.{choose}
use Rattle.net.specs.runs.Terms.{Term}

unfoldable pub weights : List Term → ℕ
weights [] = 0
weights (t ∷ T) = t.weight + weights T

-- where every finished run counts `rest`
unfoldable pub budget : List Term → ℕ → ℕ → ℕ → ℕ
budget T zero begun rest = rest
budget [] (suc left) begun rest = 0
budget (t ∷ T) (suc left) begun rest = t.weight * budget (t ∷ T) left begun rest + choose begun (suc left) * budget T (suc left) (suc left) rest
