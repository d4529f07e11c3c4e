-- Reading what is written gives the number back: its digits are digits, and spell it. Assumes nothing.
use mathlib.Core.Path.{◌≡◌, refl}
use mathlib.Core.Bool.{Bool, true, false}
use mathlib.Core.List.{List, [], ◌∷◌, ◌++◌}
use Prim.Native.Nat.{ℕ, zero, suc, ◌+◌, ◌-◌, ◌*◌, ◌/◌, ◌%◌, ◌≤◌, ◌<◌}
use native.Mathlib.Nat.{not-suc-le-zero}
use native.Mathlib.Omega.{arith}
use lib.Dec.{ltb}
use borrow.Author.Tests.{ltb-true, ltb-false, le-leb}
use Rattle.spell.specs.Decimal.{digits}
use Rattle.spell.proofs.Spelling.{digits-one, digits_more}
use Rattle.text.specs.words.Words.{is_digit, every, spelled}
use Rattle.text.proofs.words.Runs.{every-last}

-- a number below 10, or ten times what is over the last digit
module _ (P : ℕ → Type 0) (few : (n : ℕ) → n < 10 → P n) (many : (n : ℕ) → 10 ≤ n → P (n / 10) → P n) where
  upto : (k n : ℕ) → n < k → P n
  upto zero n l = absurd (not-suc-le-zero l)
  upto (suc k) n l = go (ltb n 10) refl (λ m. upto k (n / 10) (omega arith))
    where
      go : (b : Bool) → ltb n 10 ≡ b → (10 ≤ n → P (n / 10)) → P n
      go true e f = few n (ltb-true n 10 e)
      go false e f = let m = ltb-false n 10 e in many n m (f m)

  by-tens : (n : ℕ) → P n
  by-tens n = upto (suc n) n (omega arith)

spelled-last : (ds : List ℕ) (m d : ℕ) → spelled m (ds ++ (d ∷ [])) ≡ spelled m ds * 10 + (d - 48)
unfolding spelled
spelled-last [] m d = refl
spelled-last (b ∷ ds) m d = spelled-last ds (m * 10 + (b - 48)) d

digit-is : (x : ℕ) → x < 10 → is_digit (48 + x) ≡ true
unfolding is_digit
digit-is x l = rw (le-leb 48 (48 + x) (omega arith), le-leb (48 + x) 57 (omega arith))

pub all_digits : (n : ℕ) → every is_digit (digits n) ≡ true
unfolding every
all_digits =
    by-tens (λ n. every is_digit (digits n) ≡ true) (λ n l. rw (digits-one n l, digit-is n l))
    (λ n l e. rw (digits_more n l, every-last is_digit (digits (n / 10)) (48 + n % 10), e, digit-is (n % 10) (omega arith)))

pub read_back : (n : ℕ) → spelled 0 (digits n) ≡ n
unfolding spelled
read_back =
    by-tens (λ n. spelled 0 (digits n) ≡ n) (λ n l. rw (digits-one n l) (omega arith))
    (λ n l e. rw (digits_more n l, spelled-last, e) (omega arith))
