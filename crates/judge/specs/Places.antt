-- What a search for the least place at fault answers, and the tests of the numbers. Assumes nothing.
use Rattle.std.specs.Prelude.{◌≡◌, ◌<◌, List, [], ◌∷◌, ℕ, ltb, ℤ, length, Option, MatchOption}
use Rattle.request.specs.Cascade.{Test, test}
use Rattle.request.specs.Refusal.{least, value_place, parameter_place, uneven}

-- a search through n places for the least one at fault: that place, or none where it is n
abbrev pub Finds : ℕ → ℕ → Option ℕ → Type 0
Finds n place r = MatchOption r (place ≡ n) (λ k. (k ≡ place) × (k < n))

-- VALUE, PARAMETER and BALANCE, each with its least place, the last over the first `points` points of a path: of form 3 and of a
-- patch all points are to be balanced, of forms 1 and 2 none
abbrev pub number_tests : List ℤ → List ℤ → ℕ → List Test
number_tests surface path points =
    test 6 (ltb (value_place surface) (length surface)) (value_place surface)
    ∷ test 7 (ltb (parameter_place path) (length path)) (parameter_place path)
    ∷ test 8 (ltb (least points (uneven path)) points) (least points (uneven path))
    ∷ []
