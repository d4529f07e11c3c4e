-- Any table that holds Pascal's triangle row by row, up to any last row, holds the binomial coefficients. The test is of the
-- table alone: the ends of a row are 1, and each other number is the sum of the two above it. Assumes nothing.
use mathlib.Core.Path.{◌≡◌, ◌∙◌, sym, ap₂}
use mathlib.Core.Bool.{Bool, true, false, ◌&&◌}
use mathlib.Core.List.{List}
use mathlib.Core.Logic.{⊎_elim}
use Prim.Native.Nat.{ℕ, zero, suc, ◌+◌, ◌*◌, ◌≤◌, ◌<◌}
use native.Mathlib.Nat.{mul-le-mul, eq-or-lt_of_le, le_of_suc-le-suc}
use native.Mathlib.Omega.{arith}
use lib.Dec.{T, eqb, eqb→eq}
use lib.ListN.{get_or}
use Rattle.whole.specs.Choose.{choose}
use Rattle.whole.proofs.Binomial.{choose-zero, choose-pascal, choose-above}
use Rattle.pascal.specs.Entry.{place_of}

-- ---- a test passes at each number below n
abbrev pub each : ℕ → (ℕ → Bool) → Bool
each zero f = true
each (suc n) f = f 0 && each n (λ k. f (suc k))

both : (a b : Bool) → T (a && b) → T a × T b
both true b t = (tt, t)
both false b t = absurd t

pub each_at : (n : ℕ) (f : ℕ → Bool) → T (each n f) → (k : ℕ) → k < n → T (f k)
each_at zero f t k h = absurd (omega arith)
each_at (suc n) f t zero h = (both (f 0) (each n (λ k. f (suc k))) t).0
each_at (suc n) f t (suc k) h = each_at n (λ k. f (suc k)) (both (f 0) (each n (λ k. f (suc k))) t).1 k (omega arith)

-- ---- the table
-- no row up to the last starts after it
pub row_within : (last n : ℕ) → n ≤ last → n * (n + 1) ≤ last * (last + 1)
row_within last n h = let m : n + 1 ≤ last + 1 = omega arith in mul-le-mul h m

-- the number at place k of row n
abbrev pub cell : List ℕ → ℕ → ℕ → ℕ
cell t n k = get_or t (place_of n k) 0

-- the tests: a row's first number, its last, and a number between them
abbrev left_end : List ℕ → ℕ → Bool
left_end t n = eqb (cell t n 0) 1

abbrev right_end : List ℕ → ℕ → Bool
right_end t n = eqb (cell t n n) 1

abbrev inner : List ℕ → ℕ → ℕ → Bool
inner t n k = eqb (cell t (suc n) (suc k)) (cell t n k + cell t n (suc k))

abbrev inners : List ℕ → ℕ → Bool
inners t n = each n (inner t n)

pub record Triangle (t : List ℕ) (last : ℕ) : Type 0 where
  pub left : T (each (suc last) (left_end t))
  pub right : T (each (suc last) (right_end t))
  pub sums : T (each last (inners t))

module _ {t : List ℕ} {last : ℕ} (test : Triangle t last) where
  left_is : (n : ℕ) → n ≤ last → cell t n 0 ≡ 1
  left_is n h = eqb→eq _ _ (each_at (suc last) (left_end t) test.left n (omega arith))

  right_is : (n : ℕ) → n ≤ last → cell t n n ≡ 1
  right_is n h = eqb→eq _ _ (each_at (suc last) (right_end t) test.right n (omega arith))

  sum_is : (n k : ℕ) → n < last → k < n → cell t (suc n) (suc k) ≡ cell t n k + cell t n (suc k)
  sum_is n k h l = eqb→eq _ _ (each_at n (inner t n) (each_at last (inners t) test.sums n h) k l)

  pub cell-is : (n k : ℕ) → n ≤ last → k ≤ n → cell t n k ≡ choose n k
  cell-is zero zero h l = left_is 0 h ∙ sym (choose-zero 0)
  cell-is zero (suc k) h l = absurd (omega arith)
  cell-is (suc n) zero h l = left_is (suc n) h ∙ sym (choose-zero (suc n))
  cell-is (suc n) (suc k) h l =
      let row : (j : ℕ) → j ≤ n → cell t n j ≡ choose n j = λ j. cell-is n j (omega arith) in
      ⊎_elim
      (λ (e : k ≡ n).
      let one : 1 ≡ choose n n = sym (right_is n (omega arith)) ∙ row n (omega arith) in
      rw (choose-pascal, e) (right_is (suc n) h ∙ ap₂ ◌+◌ one (sym (choose-above n (suc n) (omega arith)))))
      (λ (b : k < n). sum_is n k h b ∙ ap₂ ◌+◌ (row k (omega arith)) (row (suc k) b) ∙ sym (choose-pascal n k))
      (eq-or-lt_of_le (le_of_suc-le-suc l))
