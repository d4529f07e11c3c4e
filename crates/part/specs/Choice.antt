-- Which points the arguments of one numerator take. Assumes nothing.
use Rattle.std.specs.Prelude.{cond, List, [], ◌∷◌, ℕ, zero, suc, ltb}

-- of the arguments that are left the last R take point 1, all before them point 0
unfoldable pub choice_of : ℕ → ℕ → List ℕ
choice_of zero R = []
choice_of (suc left) R = cond (ltb R (suc left)) 0 1 ∷ choice_of left R
