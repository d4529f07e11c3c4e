-- A part of a curve as a request of form 1: "a stay at one path number or a line between two". Assumes nothing.
use Rattle.std.specs.Prelude.{List, [], ◌∷◌, map, ℕ, ℤ, pos, Float}
use Rattle.request.specs.declared.Head.{Head}
use Rattle.request.specs.Request.{Request}
use Rattle.floats.specs.Path.{path_of}
use Rattle.part.specs.declared.Part.{Part}
use Rattle.part.specs.declared.Part.TheVariants.{Stay, Line}

-- the path numbers that a part names, in their order
unfoldable pub named : Part → List Float
named (Stay u) = u ∷ []
named (Line u v) = u ∷ v ∷ []

-- where a part begins and ends
unfoldable pub first_of : Part → Float
first_of (Stay u) = u
first_of (Line u v) = u

unfoldable pub last_of : Part → Float
last_of (Stay u) = u
last_of (Line u v) = v

-- N: a stay's path is one point, a line's two
unfoldable pub path_degree : Part → ℕ
path_degree (Stay u) = 0
path_degree (Line u v) = 1

unfoldable pub head_of : ℕ → Part → Head
head_of m part = record { form = 1; first = m; second = 0; N = path_degree part }

-- the request: an f64 that is no path number stands as 1025, which PARAMETER refuses
unfoldable pub request_of : ℕ → List ℤ → Part → Request
request_of m surface part = record { head = head_of m part; surface = surface; path = map (λ x. pos (path_of x)) (named part) }
