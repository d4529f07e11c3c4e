-- Rule Composed net: the literal sum over all choices (document 000, equation 8; document 004, Corollary 1), the exact
-- point's denominator and the rounded point. Assumes nothing.
use Rattle.std.specs.Prelude.{cond, List, [], ◌∷◌, ◌++◌, map, ℕ, zero, suc, ◌+◌, ◌*◌, ◌^◌, ℤ, pos, ◌*ℤ◌, eqb, take, drop}
use Rattle.whole.specs.Sum.{sum_to}
use Rattle.whole.specs.Choose.{choose}
use Rattle.whole.specs.Round.{nearest}
use Rattle.request.specs.Head.{by_form, degree, longest}
use Rattle.request.specs.Request.{Request}
use Rattle.net.specs.Net.{net_of, path_number}
use Rattle.net.specs.Blossom.{Argument, along_u, along_v, within, blossom}

-- the sum of F over "every choice of one path point number in 0..N for each of the r arguments"
unfoldable pub over_choices : ℕ → ℕ → (List ℕ → ℤ) → ℤ
over_choices zero N F = F []
over_choices (suc r) N F = sum_to N (λ c. over_choices r N (λ rest. F (c ∷ rest)))

-- the sum of the chosen numbers
unfoldable pub total : List ℕ → ℕ
total [] = 0
total (c ∷ rest) = c + total rest

-- "product of the binomials N over number"
unfoldable pub weight : ℕ → List ℕ → ℕ
weight N [] = 1
weight N (c ∷ rest) = choose N c * weight N rest

-- the arguments of a choice. "In form 2 a u argument takes only u of its chosen point and a v argument only v": the
-- first l arguments are its u arguments
unfoldable pub arguments : Request → List ℕ → List Argument
arguments rq choice =
    by_form rq.head (map (λ c. along_u (path_number rq c 0)) choice)
    (map (λ c. along_u (path_number rq c 0)) (take rq.head.first choice) ++ map (λ c. along_v (path_number rq c 1)) (drop rq.head.first choice))
    (map (λ c. within (path_number rq c 0) (path_number rq c 1) (path_number rq c 2)) choice)

-- "Numerator at R: over every choice [..] with sum R, add (product of the binomials N over number) times (blossom value
-- at those points)"
unfoldable pub numerator : Request → ℕ → ℤ
numerator rq R =
    over_choices (degree rq.head) rq.head.N
    (λ choice. cond (eqb (total choice) R) (pos (weight rq.head.N choice) *ℤ blossom (arguments rq choice) (net_of rq)) (pos 0))

-- "Exact point: numerator / (binomial(L, R)·1024^r)"
unfoldable pub denominator : Request → ℕ → ℕ
denominator rq R = choose (longest rq.head) R * 1024 ^ degree rq.head

-- "Rounded point: the nearest whole number"
unfoldable pub point : Request → ℕ → ℤ
point rq R = nearest (numerator rq R) (denominator rq R)
