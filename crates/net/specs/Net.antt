-- "Order of the numbers": how a surface's list is read as a net and a path's list as points. A net is read at (i, j);
-- form 1 has j = 0, and in form 3 k is what i and j leave of the degree. Assumes nothing.
use Rattle.std.specs.Prelude.{List, ℕ, zero, suc, ◌+◌, ◌*◌, ◌-◌, ℤ, pos, get_or}
use Rattle.request.specs.declared.Head.{Head}
use Rattle.request.specs.Head.{by_form, numbers}
use Rattle.request.specs.Request.{Request}

abbrev pub Net : Type 0
Net = ℕ → ℕ → ℤ

-- form 3: "i from 0 to n, inside it j from 0 to n − i": where the row of i begins, n − i + 1 places after the row before
unfoldable pub row_start : ℕ → ℕ → ℕ
row_start n zero = 0
row_start n (suc i) = row_start n i + (n - i + 1)

-- where the control value of (i, j) stands: i; "b(i,j) stands at i·(m+1) + j"; row i of the triangle, at j
unfoldable pub place_of : Head → ℕ → ℕ → ℕ
place_of h i j = by_form h i (i * (h.second + 1) + j) (row_start h.first i + j)

unfoldable pub net_of : Request → Net
net_of rq i j = get_or rq.surface (place_of rq.head i j) (pos 0)

-- "Path points follow one another, the numbers of a point together": number t of point c
unfoldable pub number_at : Head → List ℤ → ℕ → ℕ → ℤ
number_at h path c t = get_or path (numbers h * c + t) (pos 0)

unfoldable pub path_number : Request → ℕ → ℕ → ℤ
path_number rq = number_at rq.head rq.path
