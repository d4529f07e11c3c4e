-- What is read one after the other behind the word `tick`, and what is answered to it. Assumes nothing.
use mathlib.Core.Path.{◌≡◌}
use mathlib.Core.List.{List}
use Prim.Native.Nat.{ℕ, ◌≤◌}
use native.Mathlib.Omega.{arith}
use lib.IntN.{ℤ}
use lib.ListN.{length, take}
use Rattle.text.specs.declared.words.Cursor.{Cursor}
use Rattle.text.specs.kinds.Kinds.{ended}
use Rattle.text.specs.numbers.Numbers.{largest, natural, listed}
use Rattle.text.specs.declared.words.After.{After}
use Rattle.text.specs.declared.words.Whole.{Whole}
use Rattle.text.proofs.numbers.Zeros.{zeros, list-size, list_read}
use Rattle.tick.specs.declared.Tick.{Tick}
use Rattle.tick.specs.Told.{told}
use Rattle.asking.specs.tick_line.Line.{asked, tick_answer, spoken}
use Rattle.asking.specs.tick_line.Read.{ReadsTick}
use Rattle.asking.specs.declared.tick_line.Reading.{Reading}

pub asked_is : (line : List ℕ) (c a : Cursor) (k : After Whole) (e : Cursor) → a ≡ (listed line c).cursor → k ≡ natural line a largest
    → e ≡ ended line k.cursor → asked line c ≡ record { cursor = e; points = (listed line c).numbers; k = k.value.size }
unfolding asked
asked_is line c a k e p q r = rw (← p, ← q, ← r)

-- the points stand at the front of the array, and the answer is to them
module _ (line : List ℕ) (c : Cursor) (points : List ℤ) (r : Reading) (is : ReadsTick line c zeros points r) where
  pub points-fit : r.count ≤ length points
  points-fit = omega (arith, list-size (asked line c).points points is.holds, is.few)

  pub answer-is : (t : Tick) → t ≡ told (take r.count points) r.k → tick_answer t ≡ (spoken line c).answer
  unfolding spoken
  answer-is t e =
      rw (e, list_read (asked line c).points points is.holds r.count is.counted is.few, is.k)
