-- The size of a number, and the values of a list one after the other. Assumes nothing.
use mathlib.Core.Path.{◌≡◌, refl, sym, ◌∙◌}
use mathlib.Core.Bool.{Bool, true, false, cond}
use mathlib.Core.List.{List}
use Prim.Native.Nat.{ℕ, zero, suc, ◌+◌, ◌≤◌}
use native.Mathlib.Nat.{zero-add}
use native.Mathlib.Numerals.{add-one}
use native.Mathlib.Omega.{arith}
use lib.IntN.{ℤ}
use lib.ListN.{length, set, length-append}
use lib.Seq.{sets}
use Rattle.spell.proofs.Writing.{sets_more}
use Rattle.text.specs.words.Words.{signed}
use Rattle.text.specs.declared.words.Cursor.{Cursor}
use Rattle.text.specs.numbers.Numbers.{value, after_values, values}
use Rattle.text.specs.declared.words.After.{After}
use Rattle.text.specs.declared.words.Whole.{Whole}

-- within the bound of its sign, and so within both together
pub either : (minus : Bool) (size below above : ℕ) → size ≤ cond minus below above → size ≤ below + above
either true size below above l = omega arith
either false size below above l = omega arith

-- one value more
module _ (line : List ℕ) (c : Cursor) where
  pub values_length : (k : ℕ) → length (values line c k) ≡ k
  unfolding values
  values_length zero = refl
  values_length (suc k) = length-append (values line c k) _ ∙ rw (values_length k) (add-one k)

  module _ (k : ℕ) (v : After Whole) (cursor : Cursor) (here : cursor ≡ after_values line c k) (is : v ≡ value line cursor) where
    pub values-next : v.cursor ≡ after_values line c (k + 1)
    unfolding after_values
    values-next = rw (add-one k, is, here)

    pub values-put : (before : List ℤ) → set (sets before 0 (values line c k)) k (signed v.value.minus
        v.value.size) ≡ sets before 0 (values line c (k + 1))
    unfolding values
    values-put before =
        rw (add-one k, is, here) (sym (sets_more before 0 (values line c k) _ ∙ rw (values_length k, zero-add k)))
