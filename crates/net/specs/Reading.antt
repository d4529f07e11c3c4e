-- "Reading a ride at k/q": "Bernstein's formula with 0^0 = 1", over whole numbers, for the drawn curve, for the path and
-- for the surface at the path's place. Only sums, binomials and powers; nothing of how a ride is composed. Assumes nothing.
use Rattle.std.specs.Prelude.{List, ℕ, ◌^◌, ◌*◌, ℤ, pos, ◌-ℤ◌, ◌*ℤ◌, get_or}
use Rattle.std.proofs.Math.IntN.{pow}
use Rattle.whole.specs.Sum.{sum_over}
use Rattle.whole.specs.Choose.{choose}
use Rattle.request.specs.Head.{by_form}
use Rattle.request.specs.Request.{Request}
use Rattle.net.specs.Net.{Net, net_of, path_number}

-- Bernstein's formula: the sum over i + j = n of (n over i)·x^i·z^j·b(i), where a power with exponent 0 is 1. At x = t and
-- z = 1 − t it is the value at t; with both times s it is the value times s^n, which is how it stays whole.
unfoldable pub bernstein : ℕ → ℤ → ℤ → (ℕ → ℤ) → ℤ
bernstein n x z b = sum_over n (λ i j. pos (choose n i) *ℤ pow x i *ℤ pow z j *ℤ b i)

-- the same over a triangle: the sum over i + j + k = n of n!/(i!·j!·k!)·x^i·y^j·z^k·b(i,j), where that factor is
-- (n over i)·(n − i over j)
unfoldable pub bernstein_triangle : ℕ → ℤ → ℤ → ℤ → Net → ℤ
bernstein_triangle n x y z b = sum_over n (λ i rest. pos (choose n i) *ℤ pow x i *ℤ bernstein rest y z (b i))

-- "The drawn curve's value times q^L": the points are those of an array, at k/q
unfoldable pub drawn : ℕ → List ℤ → ℕ → ℕ → ℤ
drawn L points k q = bernstein L (pos k) (pos q -ℤ pos k) (λ R. get_or points R (pos 0))

-- number t (0, 1, 2 for u, v or x, y, z) of the path's place G(k/q), times 1024·q^N: path numbers are of 1/1024
unfoldable pub coordinate : Request → ℕ → ℕ → ℕ → ℤ
coordinate rq t k q = bernstein rq.head.N (pos k) (pos q -ℤ pos k) (λ c. path_number rq c t)

-- the scale of these coordinates, what 1 comes to: 1024·q^N
unfoldable pub scale : Request → ℕ → ℤ
scale rq q = pos (1024 * q ^ rq.head.N)

-- "F(G(k/q)) times 1024^r·q^L": form 1, Bernstein's formula at u; form 2, over i at u and over j at v; form 3, at x, y, z
unfoldable pub surface_read : Request → ℕ → ℕ → ℤ
surface_read rq k q =
    let u = coordinate rq 0 k q in
    let v = coordinate rq 1 k q in
    by_form rq.head (bernstein rq.head.first u (scale rq q -ℤ u) (λ i. net_of rq i 0))
    (bernstein rq.head.first u (scale rq q -ℤ u) (λ i. bernstein rq.head.second v (scale rq q -ℤ v) (λ j. net_of rq i j)))
    (bernstein_triangle rq.head.first (coordinate rq 0 k q) (coordinate rq 1 k q) (coordinate rq 2 k q) (net_of rq))
