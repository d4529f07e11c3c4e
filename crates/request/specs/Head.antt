-- What a request says of itself besides its two arrays, and the numbers that follow from it: r, L and the counts.
-- Assumes nothing.
use Rattle.std.specs.Prelude.{cond, ℕ, ◌+◌, ◌*◌, ◌/◌, eqb}
use Rattle.request.specs.declared.Head.{Head}

-- rule Forms and degrees: "r is 0 to 4" (01); "N up to 6" (02, ticket 6)
abbrev pub most_degree : ℕ
most_degree = 4

abbrev pub most_n : ℕ
most_n = 6

-- "so L up to 24": the points of the longest answer
abbrev pub most_points : ℕ
most_points = most_degree * most_n + 1

-- the numbers of the longest path, three to each of its points
abbrev pub most_path_numbers : ℕ
most_path_numbers = 3 * (most_n + 1)

-- the first for form 1, the second for form 2, the third for form 3 (KIND refuses every other form)
unfoldable pub by_form {ℓ} : {A : Type ℓ} → Head → A → A → A → A
by_form h curve tensor triangle = cond (eqb h.form 1) curve (cond (eqb h.form 2) tensor triangle)

-- "Write r for m, l + m or n"
unfoldable pub degree : Head → ℕ
degree h = by_form h h.first (h.first + h.second) h.first

-- "L = r·N"
unfoldable pub longest : Head → ℕ
longest h = degree h * h.N

-- "m+1, (l+1)(m+1) or (n+1)(n+2)/2" control values
unfoldable pub surface_count : Head → ℕ
surface_count h = by_form h (h.first + 1) ((h.first + 1) * (h.second + 1)) ((h.first + 1) * (h.first + 2) / 2)

-- how many numbers make a path point: u; u, v; x, y, z
unfoldable pub numbers : Head → ℕ
numbers h = by_form h 1 2 3

-- "1, 2 or 3 times N+1" path numbers
unfoldable pub path_count : Head → ℕ
path_count h = numbers h * (h.N + 1)
