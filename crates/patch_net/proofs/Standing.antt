-- Where an index stands: (i, j, k) of degree d at `row_start d i + j` of the indices in their order, of which there are
-- (d+1)(d+2)/2. Assumes nothing.
use mathlib.Core.Path.{◌≡◌, refl, sym, ◌∙◌, ap, subst}
use mathlib.Core.Bool.{cond}
use mathlib.Core.List.{List, ◌++◌}
use Prim.Native.Nat.{ℕ, zero, suc, ◌+◌, ◌*◌, ◌-◌, ◌≤◌, ◌<◌}
use native.Mathlib.Nat.{add-zero, zero-add, suc-add, add-suc, mul_comm, mul-add, mul-le-mul, div-add-mod, mod-lt}
use native.Mathlib.Numerals.{add-one}
use native.Mathlib.Decide.{ℕ_discrete}
use native.Mathlib.Omega.{arith}
use lib.Dec.{eqb}
use lib.ListN.{length, get_or, length-append, get_or-append}
use lib.Seq.{get_or-append-add}
use borrow.Author.Tests.{eq-eqb, ne_eqb}
use Rattle.net.specs.Net.{row_start}
use Rattle.patch_net.specs.Patch.{Index, index, row, rows, indices, index_at, next_of, places}
use Rattle.patch_net.proofs.Indices.{degree}

abbrev none : Index
none = index 0 0 0

-- ---- one row
row-length : (i j n : ℕ) → length (row i j n) ≡ suc n
unfolding row
row-length i j zero = refl
row-length i j (suc n) = ap suc (row-length i (suc j) n)

row_first : (i j n : ℕ) → get_or (row i j n) 0 none ≡ index i j n
unfolding row
row_first i j zero = refl
row_first i j (suc n) = refl

row_next : (i j n m : ℕ) → get_or (row i j (suc n)) (suc m) none ≡ get_or (row i (suc j) n) m none
unfolding row
row_next i j n m = refl

row_at : (i j k m : ℕ) → get_or (row i j (m + k)) m none ≡ index i (j + m) k
row_at i j k zero = rw (zero-add k, add-zero j) (row_first i j k)
row_at i j k (suc m) = rw (suc-add m k, row_next i j (m + k) m, row_at i (suc j) k m, suc-add j m, add-suc j m)

-- ---- the rows
rows-zero : (i : ℕ) → rows i 0 ≡ row i 0 0
unfolding rows
rows-zero i = refl

rows-suc : (i n : ℕ) → rows i (suc n) ≡ row i 0 (suc n) ++ rows (suc i) n
unfolding rows
rows-suc i n = refl

rows-front : (i n j : ℕ) → j < suc n → get_or (rows i n) j none ≡ get_or (row i 0 n) j none
rows-front i zero j h = ap (λ (l : List Index). get_or l j none) (rows-zero i)
rows-front i (suc n) j h =
    ap (λ (l : List Index). get_or l j none) (rows-suc i n) ∙ get_or-append (row i 0 (suc n)) (rows (suc i) n) none j (rw (row-length i 0 (suc n)) h)

rows-length-suc : (i n : ℕ) → length (rows i (suc n)) ≡ suc (suc n) + length (rows (suc i) n)
rows-length-suc i n =
    ap length (rows-suc i n) ∙ length-append (row i 0 (suc n)) (rows (suc i) n)
    ∙ ap (λ (x : ℕ). x + length (rows (suc i) n)) (row-length i 0 (suc n))

rows-some : (i n : ℕ) → n < length (rows i n)
rows-some i zero = rw (rows-zero i, row-length i 0 0) (omega arith)
rows-some i (suc n) = omega (arith, rows-length-suc i n)

-- where a row begins, from the first row on
start-suc : (n e : ℕ) → row_start (suc n) (suc e) ≡ suc (suc n) + row_start n e
unfolding row_start
start-suc n zero = omega arith
start-suc n (suc e) = omega (arith, start-suc n e)

start-zero : (n : ℕ) → row_start n 0 ≡ 0
unfolding row_start
start-zero n = refl

rows_at : (e i j k : ℕ) → get_or (rows i (e + (j + k))) (row_start (e + (j + k)) e + j) none ≡ index (i + e) j k
rows_at zero i j k =
    rw (zero-add (j + k), start-zero (j + k), zero-add j, add-zero i)
    (rows-front i (j + k) j (omega arith) ∙ row_at i 0 k j ∙ ap (λ (x : ℕ). index i x k) (zero-add j))
rows_at (suc e) i j k =
    let n = e + (j + k) in
    let here : row_start (suc n) (suc e) + j ≡ length (row i 0 (suc n)) + (row_start n e + j) = omega (arith, start-suc n e, row-length i 0 (suc n)) in
    let one : suc i + e ≡ i + suc e = omega arith in
    rw (suc-add e (j + k), here, rows-suc i n)
    (get_or-append-add (row i 0 (suc n)) (rows (suc i) n) (row_start n e + j) none ∙ rows_at e (suc i) j k ∙ ap (λ (x : ℕ). index x j k) one)

rows_inside : (e i j k : ℕ) → row_start (e + (j + k)) e + j < length (rows i (e + (j + k)))
rows_inside zero i j k = rw (zero-add (j + k), start-zero (j + k)) (omega (arith, rows-some i (j + k)))
rows_inside (suc e) i j k =
    let n = e + (j + k) in
    rw (suc-add e (j + k)) (omega (arith, start-suc n e, rows-length-suc i n, rows_inside e (suc i) j k))

-- ---- all indices
pub index-at : (d : ℕ) (t : Index) → degree t ≡ d → index_at d (row_start d t.i + t.j) ≡ t
unfolding index_at indices
index-at d t h = rw (← h) (rows_at t.i 0 t.j t.k ∙ ap (λ (x : ℕ). index x t.j t.k) (zero-add t.i))

rows-places : (i n : ℕ) → 2 * length (rows i n) ≡ (n + 1) * (n + 2)
rows-places i zero = rw (rows-zero i, row-length i 0 0)
rows-places i (suc n) =
    let a : suc n + 1 ≡ n + 2 = omega arith in
    let b : suc n + 2 ≡ n + 1 + 2 = omega arith in
    rw (a, b) (omega (arith, rows-length-suc i n, rows-places (suc i) n, mul-add (n + 2) (n + 1) 2, mul_comm (n + 1) (n + 2)))

pub indices-length : (d : ℕ) → length (indices d) ≡ places d
unfolding indices places
indices-length d =
    let x = (d + 1) * (d + 2) in
    omega (arith, rows-places 0 d, div-add-mod x 2, mod-lt x {m = 2} (omega arith))

pub place_inside : (d : ℕ) (t : Index) → degree t ≡ d → row_start d t.i + t.j < places d
unfolding indices
place_inside d t h = subst (λ (x : ℕ). row_start d t.i + t.j < x) (indices-length d) (rw (← h) (rows_inside t.i 0 t.j t.k))

-- a net of a greater degree has more places
pub places-most : (d m : ℕ) → d ≤ m → places d ≤ places m
unfolding places
places-most d m h =
    let x = (d + 1) * (d + 2) in
    let y = (m + 1) * (m + 2) in
    let one : d + 1 ≤ m + 1 = omega arith in
    let two : d + 2 ≤ m + 2 = omega arith in
    omega (arith, mul-le-mul one two, div-add-mod x 2, div-add-mod y 2, mod-lt x {m = 2} (omega arith), mod-lt y {m = 2} (omega arith))

pub places-few : (N : ℕ) → N ≤ 3 → places N ≤ 10
unfolding places
places-few N h = places-most N 3 h

pub places-some : (d : ℕ) → 0 < places d
places-some d = let i = place_inside d (index 0 0 d) (omega arith) in omega arith

-- ---- one index after the other
-- t is the index of degree d at a place
pub record Stands (d place : ℕ) (t : Index) : Type 0 where
  pub whole : degree t ≡ d
  pub here : row_start d t.i + t.j ≡ place

pub stands_at : (d place : ℕ) (t : Index) → Stands d place t → index_at d place ≡ t
stands_at d place t s = ap (index_at d) (sym s.here) ∙ index-at d t s.whole

pub stands-first : (d : ℕ) → Stands d 0 (index 0 0 d)
stands-first d = record { whole = omega arith; here = rw (start-zero d) }

-- (d, 0, 0) is the last
start-last : (d i : ℕ) → row_start d d + 1 ≡ length (rows i d)
start-last zero i = rw (rows-zero i, row-length i 0 0, start-zero 0)
start-last (suc d) i = omega (arith, start-suc d d, rows-length-suc i d, start-last d (suc i))

start-next : (d i : ℕ) → row_start d (i + 1) ≡ row_start d i + (d - i + 1)
unfolding row_start
start-next d i = rw (add-one i)

pub stands-next : (d place : ℕ) (t : Index) → Stands d place t → place + 1 < places d → Stands d (place + 1) (next_of t)
unfolding next_of indices
stands-next d place t s more = go (ℕ_discrete t.k 0) (ℕ_discrete t.j 0)
  where
    w : degree t ≡ d
    w = s.whole

    e : row_start d t.i + t.j ≡ place
    e = s.here

    go : Dec (t.k ≡ 0) → Dec (t.j ≡ 0)
        → Stands d (place + 1) (cond (eqb t.k 0) (index (t.i + 1) 0 (t.j - 1)) (index t.i (t.j + 1) (t.k - 1)))
    go (yes z) (yes y) =
        let i : t.i ≡ d = omega arith in
        absurd (omega (arith, rw i at e, start-last d 0, indices-length d))
    go (yes z) (no y) = rw (eq-eqb t.k 0 z) (record { whole = omega arith; here = rw (start-next d t.i) (omega arith) })
    go (no z) y = rw (ne_eqb t.k 0 z) (record { whole = omega arith; here = omega arith })

-- at every place of a net
pub stands-all : (d place : ℕ) → place < places d → Stands d place (index_at d place)
stands-all d zero h = rw (stands_at d 0 (index 0 0 d) (stands-first d)) (stands-first d)
stands-all d (suc place) h =
    let next : Stands d (suc place) (next_of (index_at d place)) =
    rw (add-one place) at (stands-next d place (index_at d place) (stands-all d place (omega arith)) (omega arith)) in
    rw (stands_at d (suc place) (next_of (index_at d place)) next) next
