-- The terms of a ride: path points 0 to N, point c with its binomial and its number for a key, each read as an argument.
-- Assumes nothing.
use Rattle.std.specs.Prelude.{cond, List, [], ◌∷◌, ℕ, zero, suc, pos, eqb}
use Rattle.whole.specs.Choose.{choose}
use Rattle.net.specs.Blossom.{Argument}
use Rattle.net.specs.runs.Terms.{Term, Reading}

-- the number that is left, if the keys add up to R
unfoldable pub leaf : ℕ → Reading
leaf R s p = cond (eqb s R) (p 0 0) (pos 0)

-- f 0, .. f (n − 1)
unfoldable pub below : {A : Type 0} → ℕ → (ℕ → A) → List A
below zero f = []
below (suc n) f = f 0 ∷ below n (λ c. f (suc c))

unfoldable pub path_term : ℕ → (ℕ → Argument) → ℕ → Term
path_term N read c = record { weight = choose N c; key = c; argument = read c }

unfoldable pub path_terms : ℕ → (ℕ → Argument) → List Term
path_terms N read = below (suc N) (path_term N read)
