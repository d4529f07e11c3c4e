-- Reading at "a place (a, b, c)/q, a for i, b for j, c for k, with a+b+c = q": Bernstein's triangular formula, over whole numbers.
-- Assumes nothing.
use Rattle.std.specs.Prelude.{◌≡◌, refl, List, [], ◌∷◌, map, ℕ, ◌+◌, ℤ, pos, get_or}
use Rattle.std.proofs.Math.IntN.{one, pow}
use Rattle.whole.specs.Sum.{sum_over}
use Rattle.whole.specs.Choose.{choose}
use Rattle.net.specs.Net.{row_start}
use Rattle.net.specs.Reading.{bernstein, bernstein_triangle}
use Rattle.patch_net.specs.Patch.{Patch, net_of, path_number}

-- the drawn patch of degree L, its points those of an array: its value times q^L
unfoldable pub drawn : ℕ → List ℤ → ℕ → ℕ → ℕ → ℤ
drawn L points a b c = bernstein_triangle L (pos a) (pos b) (pos c) (λ i j. get_or points (row_start L i + j) (pos 0))

-- at (2, 3, 5)/10 each corner has its share: 5·10 + 3·100 + 2·1000
pub corners : drawn 1 (map pos (10 ∷ 100 ∷ 1000 ∷ [])) 2 3 5 ≡ pos 2350
unfolding drawn bernstein_triangle bernstein row_start sum_over choose pow one
corners = refl

-- number t (0, 1, 2 for x, y, z) of the domain's place, times 1024·q^N
unfoldable pub coordinate : Patch → ℕ → ℕ → ℕ → ℕ → ℤ
coordinate p t a b c = bernstein_triangle p.domain (pos a) (pos b) (pos c) (path_number p t)

-- the surface there, times 1024^n·q^L
unfoldable pub surface_read : Patch → ℕ → ℕ → ℕ → ℤ
surface_read p a b c = bernstein_triangle p.outer (coordinate p 0 a b c) (coordinate p 1 a b c) (coordinate p 2 a b c) (net_of p)
