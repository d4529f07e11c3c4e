-- One patch as it is asked, and the order of its numbers: "all nets in 01's triangular order" (rule Order of the numbers). Assumes nothing.
use Rattle.std.specs.Prelude.{◌≡◌, refl, cond, List, [], ◌∷◌, ◌++◌, ℕ, zero, suc, ◌+◌, ◌*◌, ◌-◌, ◌/◌, eqb, ℤ, pos, get_or}
use Rattle.net.specs.Net.{Net, row_start}

-- the outer degree n, the domain degree N, the surface's control values, and three numbers to each domain point
pub record Patch : Type 0 where
  pub outer : ℕ
  pub domain : ℕ
  pub surface : List ℤ
  pub path : List ℤ

abbrev pub patch_of : ℕ → ℕ → List ℤ → List ℤ → Patch
patch_of n N surface path = record { outer = n; domain = N; surface = surface; path = path }

-- "Outer degree and domain degree 0 to 3, product at most 9"
abbrev pub most_degree : ℕ
most_degree = 3

-- L, the degree of the composed patch
unfoldable pub longest : Patch → ℕ
longest p = p.outer * p.domain

-- how many numbers a triangular net of degree d has
unfoldable pub places : ℕ → ℕ
places d = (d + 1) * (d + 2) / 2

-- an index (i, j, k) of a net; i, j and k together are its degree
pub record Index : Type 0 where
  pub i : ℕ
  pub j : ℕ
  pub k : ℕ

abbrev pub index : ℕ → ℕ → ℕ → Index
index i j k = record { i = i; j = j; k = k }

-- Rule Order of the numbers (01): "i from 0 to n, inside it j from 0 to n − i, k = n − i − j"
unfoldable pub row : ℕ → ℕ → ℕ → List Index
row i j zero = index i j 0 ∷ []
row i j (suc k) = index i j (suc k) ∷ row i (suc j) k

unfoldable pub rows : ℕ → ℕ → List Index
rows i zero = row i 0 zero
rows i (suc rest) = row i 0 (suc rest) ++ rows (suc i) rest

-- the indices of degree d, in the order of their places
unfoldable pub indices : ℕ → List Index
indices d = rows 0 d

-- written out for degree 2
pub order : indices 2 ≡ index 0 0 2 ∷ index 0 1 1 ∷ index 0 2 0 ∷ index 1 0 1 ∷ index 1 1 0 ∷ index 2 0 0 ∷ []
unfolding row rows indices
order = refl

-- the index at a place
unfoldable pub index_at : ℕ → ℕ → Index
index_at d place = get_or (indices d) place (index 0 0 0)

-- the index after another: in a row j is one more; where a row ends i is, and j begins at 0
unfoldable pub next_of : Index → Index
next_of t = cond (eqb t.k 0) (index (t.i + 1) 0 (t.j - 1)) (index t.i (t.j + 1) (t.k - 1))

-- the surface as a net, and number t (x, y, z) of the domain point (i, j): "the numbers of a point together"
unfoldable pub net_of : Patch → Net
net_of p i j = get_or p.surface (row_start p.outer i + j) (pos 0)

unfoldable pub path_number : Patch → ℕ → Net
path_number p t i j = get_or p.path (3 * (row_start p.domain i + j) + t) (pos 0)
