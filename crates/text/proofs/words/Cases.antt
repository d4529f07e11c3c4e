-- Laws of the words: the cases of a number, and a word that bears the mark of an age. Assumes nothing.
use mathlib.Core.Path.{◌≡◌, refl}
use mathlib.Core.Bool.{Bool, true, false, cond}
use mathlib.Core.List.{List}
use Prim.Native.Nat.{ℕ, ◌-◌, ◌≤◌, ◌<◌, min}
use native.Mathlib.Omega.{arith}
use lib.Dec.{ltb, eqb}
use lib.ListN.{length, get_or, drop, length-drop}
use lib.Seq.{length-take-le}
use borrow.Author.Tests.{lt-ltb, le-ltb, ltb-false}
use Rattle.text.specs.words.Words.{is_digit, every, between, spelled, size_within, with_sign, number_of, is_age, greatest_age, age_of}
use Rattle.text.specs.words.Read.{cap, ReadsWord, ReadsAge}
use Rattle.text.specs.declared.words.Whole.{Whole}
use Rattle.text.specs.declared.words.Wrong.{Wrong}
use Rattle.text.specs.declared.words.Wrong.TheVariants.{NotNumber, Outside, LeftOver}
use Rattle.std.proofs.Common.{Result, Ok, Err, IfOk}

module _ (ds : List ℕ) (bound : ℕ) where
  -- the cases of a number within a bound
  size-by : (P : Result ℕ Wrong → Type 0) → P (Err NotNumber) → P (Err Outside) → (spelled 0 ds ≤ bound → P (Ok (spelled 0 ds)))
      → P (size_within ds bound)
  unfolding size_within
  size-by P a b f = go (eqb (length ds) 0) (every is_digit ds) (ltb bound (spelled 0 ds)) refl
    where
      go : (x y z : Bool) → ltb bound (spelled 0 ds) ≡ z
          → P (cond x (Err NotNumber) (cond y (cond z (Err Outside) (Ok (spelled 0 ds))) (Err NotNumber)))
      go true y z e = a
      go false false z e = a
      go false true true e = b
      go false true false e = f (ltb-false bound (spelled 0 ds) e)

  size-small : IfOk (size_within ds bound) (λ n. n ≤ bound)
  size-small = size-by (λ r. IfOk r (λ n. n ≤ bound)) tt tt (λ l. l)

  pub digits-none : eqb (length ds) 0 ≡ true → Err NotNumber ≡ size_within ds bound
  unfolding size_within
  digits-none e = rw e

  module _ (some-digit : eqb (length ds) 0 ≡ false) where
    pub digits-odd : every is_digit ds ≡ false → Err NotNumber ≡ size_within ds bound
    unfolding size_within
    digits-odd f = rw (some-digit, f)

    -- by the number that they spell, up to the cap
    module _ (all : every is_digit ds ≡ true) (n : ℕ) (is : min (spelled 0 ds) cap ≡ n) (l : bound < cap) where
      pub digits-large : bound < n → Err Outside ≡ size_within ds bound
      unfolding size_within
      digits-large h = rw (some-digit, all, lt-ltb bound (spelled 0 ds) (omega (arith, is)))

      pub digits-read : n ≤ bound → Ok n ≡ size_within ds bound
      unfolding size_within
      digits-read h =
          let e : n ≡ spelled 0 ds = omega (arith, is) in
          rw (some-digit, all, e, le-ltb bound (spelled 0 ds) (omega (arith, is)))

-- the size of a word's number is within the bound of its sign
abbrev Small : ℕ → ℕ → Result Whole Wrong → Type 0
Small below above r = IfOk r (λ n. n.size ≤ cond n.minus below above)

number_small : (w : List ℕ) (below above : ℕ) → Small below above (number_of w below above)
unfolding number_of
number_small w below above = go (eqb (get_or w 0 0) 45)
  where
    go : (b : Bool) → Small below above (cond b (with_sign true (size_within (drop 1 w) below)) (with_sign false (size_within w above)))
    go true = size-by (drop 1 w) below (λ r. Small below above (with_sign true r)) tt tt (λ l. l)
    go false = size-by w above (λ r. Small below above (with_sign false r)) tt tt (λ l. l)

pub reads_word : (w : List ℕ) (below above : ℕ) (r : Result Whole Wrong) → r ≡ number_of w below above → ReadsWord w below above r
reads_word w below above r e = record { is = e; small = rw e (number_small w below above) }

-- a word with a minus, and one without
module _ (w : List ℕ) (below above : ℕ) where
  pub number-minus : eqb (get_or w 0 0) 45 ≡ true → with_sign true (size_within (drop 1 w) below) ≡ number_of w below above
  unfolding number_of
  number-minus e = rw e

  pub number-plain : eqb (get_or w 0 0) 45 ≡ false → with_sign false (size_within w above) ≡ number_of w below above
  unfolding number_of
  number-plain e = rw e

pub length-between : (line : List ℕ) (start end : ℕ) → end ≤ length line → length (between line start end) ≡ end - start
length-between line start end l = length-take-le (end - start) (drop start line) (omega (arith, length-drop start line))

pub clash : false ≡ true → ⊥
clash e = let z : ◌≡◌ {A = ℕ} 0 1 = cc in omega arith

-- a word with the mark, and one without
module _ (w : List ℕ) (r : Result ℕ Wrong) where
  pub reads-age : is_age w ≡ true → r ≡ size_within (drop 4 w) greatest_age → ReadsAge w r
  unfolding age_of
  reads-age t e = record { is = rw t e; small = rw e (size-small _ greatest_age) }

  pub reads_other : is_age w ≡ false → r ≡ Err LeftOver → ReadsAge w r
  unfolding age_of
  reads_other f e = record { is = rw f e; small = rw e tt }
