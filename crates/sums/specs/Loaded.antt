-- What the array holds when a surface is loaded. Assumes nothing.
use Rattle.std.specs.Prelude.{◌≡◌, List, [], ◌∷◌, ℕ, ◌+◌, ◌≤◌, ◌<◌, ℤ, pos, get_or}
use Rattle.net.specs.Net.{Net, row_start}
use Rattle.sums.specs.steps.Layout.{held, row_of, column_of}
use Rattle.sums.specs.steps.Stepped.{Small}

-- three control values
abbrev pub read_three : List ℤ → ℕ → ℕ → ℕ → List ℤ
read_three surface a b c = get_or surface a (pos 0) ∷ get_or surface b (pos 0) ∷ get_or surface c (pos 0) ∷ []

-- form 3: a list of control values read as a net of degree n
unfoldable pub stacked : ℕ → List ℤ → Net
stacked n surface i j = get_or surface (row_start n i + j) (pos 0)

-- the control value of place k's (i, j)
unfoldable pub loaded_at : ℕ → List ℤ → ℕ → ℤ
loaded_at n surface k = get_or surface (row_start n (row_of k) + column_of k) (pos 0)

pub record LoadedBox (surface net : List ℤ) : Type 0 where
  pub each : (k : ℕ) → k < 9 → get_or net k (pos 0) ≡ get_or surface k (pos 0)
  pub small : Small net 4096

pub record LoadedTriangle (surface : List ℤ) (n : ℕ) (net : List ℤ) : Type 0 where
  pub each : (i j : ℕ) → i + j ≤ n → held net i j ≡ stacked n surface i j
  pub small : Small net 4096
