-- How a net is held in 15 numbers. A rectangle, forms 1 and 2, in the request's own order: the places of one i together, `gap` of
-- them. A triangle, form 3, by diagonals: (i, j) stands after every place of a smaller i + j, at i on its own, so that a net of
-- one degree less is a shorter front of the same array. Assumes nothing.
use Rattle.std.specs.Prelude.{cond, List, ℕ, zero, suc, ◌+◌, ◌*◌, ◌-◌, ℤ, pos, ltb, get_or}
use Rattle.net.specs.Net.{Net}

unfoldable pub boxed : ℕ → List ℤ → Net
boxed gap l i j = get_or l (i * gap + j) (pos 0)

-- how many places come before diagonal s: s(s+1)/2
unfoldable pub before : ℕ → ℕ
before zero = 0
before (suc s) = before s + suc s

unfoldable pub spot : ℕ → ℕ → ℕ
spot i j = before (i + j) + i

unfoldable pub held : List ℤ → Net
held l i j = get_or l (spot i j) (pos 0)

-- the diagonal i + j of place k, of the 15 places
unfoldable pub diagonal : ℕ → ℕ
diagonal k = cond (ltb k 1) 0 (cond (ltb k 3) 1 (cond (ltb k 6) 2 (cond (ltb k 10) 3 4)))

-- where (i, j+1) stands, for (i, j) at k: one diagonal further; (i+1, j) stands right after it
unfoldable pub further : ℕ → ℕ
further k = k + diagonal k + 1

-- i and j of place k
unfoldable pub row_of : ℕ → ℕ
row_of k = k - before (diagonal k)

unfoldable pub column_of : ℕ → ℕ
column_of k = diagonal k - row_of k
