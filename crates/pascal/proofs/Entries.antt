-- What is answered: a number of the table, which passes the test of a triangle and so holds the binomial coefficients, and at most the
-- greatest, by a test of the rows, each made from the one above it. Callers cite the bound for their own sums. Assumes nothing.
use mathlib.Core.Path.{◌≡◌, refl, sym, ◌∙◌, ap, ap₂}
use mathlib.Core.Bool.{Bool, true, false, cond}
use mathlib.Core.List.{List, [], ◌∷◌}
use mathlib.Core.Logic.{◌⊎◌, inl, inr, ⊎_elim}
use Prim.Native.Nat.{ℕ, zero, suc, ◌+◌, ◌≤◌, ◌<◌}
use native.Mathlib.Nat.{zero-add}
use native.Mathlib.Decide.{dec_le}
use native.Mathlib.Omega.{arith}
use lib.Dec.{T, leb, leb→le}
use lib.ListN.{length, get_or, get_or-eq_default}
use borrow.Author.Tests.{le-leb, lt-leb}
use Rattle.whole.specs.Choose.{choose}
use Rattle.whole.proofs.Binomial.{choose-above}
use Rattle.pascal.specs.Entry.{last_row, largest, place_of, entry}
use Rattle.pascal.specs.Table.{table}
use Rattle.pascal.proofs.Triangle.{each, each_at, cell, cell-is}

pub entry_in : (last n k : ℕ) → n ≤ last → entry last n k ≡ choose n k
unfolding entry
entry_in last n k h = rw (le-leb n last h)

pub entry_past : (last n k : ℕ) → last < n → entry last n k ≡ 0
unfolding entry
entry_past last n k h = rw (lt-leb n last h)

pub entry-above : (last n k : ℕ) → n < k → entry last n k ≡ 0
unfolding entry
entry-above last n k h = by (leb n last)
  where
    by : (b : Bool) → cond b (choose n k) 0 ≡ 0
    by true = choose-above n k h
    by false = refl

order : (m n : ℕ) → (m ≤ n) ⊎ (n < m)
order m n = by (dec_le m n)
  where
    by : Dec (m ≤ n) → (m ≤ n) ⊎ (n < m)
    by (yes h) = inl h
    by (no f) = inr (omega arith)

-- ---- the table's numbers, by its test, which is computed here, once
table_is : (n k : ℕ) → n ≤ last_row → k ≤ n → cell table n k ≡ choose n k
table_is = cell-is {t = table} {last = last_row} (record { left = tt; right = tt; sums = tt })

-- so the number at a row's place is the entry
pub told : (last n k at x : ℕ) → last ≤ last_row → n ≤ last → k ≤ n → at ≡ place_of n k → x ≡ get_or table at 0 → x ≡ entry last n k
told last n k at x b h l e r =
    r ∙ ap (λ y. get_or table y 0) e ∙ table_is n k (omega arith) l ∙ sym (entry_in last n k h)

-- what an arm of a `match` on the place would answer, and what is answered past the end (docs/landings/14.md names both)
pub arm : {x k : ℕ} → x ≡ k → get_or table k 0 ≡ get_or table x 0
arm e = sym (ap (λ y. get_or table y 0) e)

pub past : (x : ℕ) → length table ≤ x → 0 ≡ get_or table x 0
past x h = sym (get_or-eq_default table 0 h)

-- ---- the rows
-- the sums of neighbours in a ∷ r, and then the last number
abbrev sums : ℕ → List ℕ → List ℕ
sums a [] = a ∷ []
sums a (b ∷ r) = (a + b) ∷ sums b r

abbrev row : ℕ → List ℕ
row zero = 1 ∷ []
row (suc n) = sums 0 (row n)

sums_first : (a : ℕ) (r : List ℕ) → get_or (sums a r) 0 0 ≡ a + get_or r 0 0
sums_first a [] = omega arith
sums_first a (b ∷ r) = refl

sums_next : (a : ℕ) (r : List ℕ) (k : ℕ) → get_or (sums a r) (suc k) 0 ≡ get_or r k 0 + get_or r (suc k) 0
sums_next a [] k = refl
sums_next a (b ∷ r) zero = sums_first b r
sums_next a (b ∷ r) (suc k) = sums_next b r k

row_is : (n k : ℕ) → get_or (row n) k 0 ≡ choose n k
unfolding choose
row_is zero zero = refl
row_is zero (suc k) = refl
row_is (suc n) zero = sums_first 0 (row n) ∙ zero-add _ ∙ row_is n 0
row_is (suc n) (suc k) = sums_next 0 (row n) k ∙ ap₂ ◌+◌ (row_is n k) (row_is n (suc k))

-- ---- the bound
-- the test: no number of row n is above b
abbrev small : ℕ → ℕ → ℕ → Bool
small b n k = leb (get_or (row n) k 0) b

abbrev smalls : ℕ → ℕ → Bool
smalls b n = each (suc n) (small b n)

choose-bound : (b last : ℕ) → T (each (suc last) (smalls b)) → (n k : ℕ) → n ≤ last → choose n k ≤ b
choose-bound b last t n k h =
    ⊎_elim
    (λ (l : k ≤ n).
    let r = each_at (suc last) (smalls b) t n (omega arith) in
    rw (← row_is n k) (leb→le _ b (each_at (suc n) (small b n) r k (omega arith))))
    (λ (l : n < k). omega (arith, choose-above n k l))
    (order k n)

pub choose-most : (n k : ℕ) → n ≤ last_row → choose n k ≤ largest
choose-most = choose-bound largest last_row tt

pub entry-bound : (last n k : ℕ) → last ≤ last_row → entry last n k ≤ largest
entry-bound last n k l =
    ⊎_elim
    (λ (h : n ≤ last). rw (entry_in last n k h) (choose-most n k (omega arith)))
    (λ (h : last < n). omega (arith, entry_past last n k h))
    (order n last)
