-- The digits of a number by two words: those of its tenth, and the last one. Assumes nothing.
use mathlib.Core.Path.{◌≡◌, refl, sym, ap, ◌∙◌, subst}
use mathlib.Core.Bool.{true, false, not}
use mathlib.Core.List.{List, ◌∷◌}
use Prim.Native.Nat.{ℕ, suc, ◌+◌, ◌*◌, ◌/◌, ◌%◌, ◌^◌, ◌≤◌, ◌<◌}
use native.Mathlib.Nat.{le_trans, mul-le-mul_left}
use native.Mathlib.Omega.{arith}
use lib.Dec.{leb→le}
use lib.IntN.{ℤ, pos, negsuc, nat_abs}
use lib.Signed.{non_neg}
use lib.ListN.{length, set}
use Rattle.spell.specs.Decimal.{digits, decimal, Written}
use Rattle.spell.proofs.Spelling.{length_digits, length_more, digits-stored, decimal-below, decimal-above}
use Rattle.spell.proofs.Writing.{written-within}
use Rattle.two_words.specs.Words.{two_words}
use Rattle.two_words.proofs.Only.{below-zero}

-- what is left of a high word and the upper half of a low one fit together
pub upper_fits : (high low : ℕ) → low < 2 ^ 64 → high % 10 * 2 ^ 32 + low / 2 ^ 32 < 2 ^ 64
upper_fits high low l = omega arith

-- a tenth of some high word is less
pub falls : (high h t : ℕ) → (high ≡ 0 → ⊥) → 10 * h ≤ high → high ≡ t → h < t
falls high h t some m e = omega arith

-- where there is no high word
pub low-written : (high low : ℕ) (out now : List ℕ) (at next : ℕ) → high ≡ 0 → Written 20 out at (digits low) now next
    → Written 39 out at (digits (2 ^ 64 * high + low)) now next
low-written high low out now at next e w =
    subst (λ n. Written 39 out at (digits n) now next) same (written-within 20 out at (digits low) now next w 39 (omega arith))
  where
    same : low ≡ 2 ^ 64 * high + low
    same = omega arith

-- any two words have at most 39 digits
pub thirty-nine : (high low : ℕ) → high < 2 ^ 64 → low < 2 ^ 64 → length (digits (2 ^ 64 * high + low)) ≤ 39
thirty-nine high low h l = length_digits 38 (2 ^ 64 * high + low) (le_trans next (le_trans (mul-le-mul_left (2 ^ 64) h)
    (leb→le (2 ^ 64 * 2 ^ 64) (10 ^ 39) tt)))
  where
    next : suc (2 ^ 64 * high + low) ≤ 2 ^ 64 * suc high
    next = omega arith

module _ (high low h l d : ℕ) (some : (high ≡ 0) → ⊥) (e : 2 ^ 64 * high + low ≡ 10 * (2 ^ 64 * h + l) + d) (m : d < 10) where
  abbrev N : ℕ
  N = 2 ^ 64 * high + low

  ten : 10 ≤ N
  ten = omega arith

  over : N / 10 ≡ 2 ^ 64 * h + l
  over = omega arith

  left : N % 10 ≡ d
  left = omega arith

  pub longer : length (digits N) ≡ length (digits (2 ^ 64 * h + l)) + 1
  longer = length_more N ten ∙ ap (λ n. length (digits n) + 1) over

  -- there is a place for the last digit
  pub inside : (at next size : ℕ) → length (digits N) ≤ 39 → next ≡ at + length (digits (2 ^ 64 * h + l)) → at + 39 ≤ size → next < size
  inside at next size few ends room = let k = longer in go (length (digits N)) (length (digits (2 ^ 64 * h + l))) k few ends
    where
      go : (a b : ℕ) → a ≡ b + 1 → a ≤ 39 → next ≡ at + b → next < size
      go a b k few ends = omega arith

  pub last_written : (out now : List ℕ) (at next : ℕ) → length (digits N) ≤ 39 → Written 39 out at (digits (2 ^ 64 * h + l)) now next
      → Written 39 out at (digits N) (set now next (48 + d)) (next + 1)
  last_written out now at next few w = record {
    ends = omega (arith, w.ends, longer);
    holds = rw (w.holds, w.ends) (rw (over, left) at (digits-stored N ten out at));
    small = omega (arith, w.ends, longer);
  }

-- ---- a number by its sign and its size, by its words
sign-is : (high : ℤ) (low : ℕ) → low < 2 ^ 64 → not (non_neg (two_words high low)) ≡ not (non_neg high)
unfolding two_words
sign-is (pos h) low m = refl
sign-is (negsuc h) low m = ap (λ z. not (non_neg z)) (below-zero h low m)

module _ (high : ℤ) (low size : ℕ) (m : low < 2 ^ 64) (e : size ≡ nat_abs (two_words high low)) where
  pub words-below : not (non_neg high) ≡ true → decimal (two_words high low) ≡ 45 ∷ digits size
  words-below t = decimal-below (two_words high low) (sign-is high low m ∙ t) ∙ ap (λ n. 45 ∷ digits n) (sym e)

  pub words-above : not (non_neg high) ≡ false → decimal (two_words high low) ≡ digits size
  words-above t = decimal-above (two_words high low) (sign-is high low m ∙ t) ∙ ap digits (sym e)
