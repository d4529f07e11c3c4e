-- What is written is fixed: any two results that a contract allows are equal. Assumes nothing.
use mathlib.Core.List.{List}
use mathlib.Core.Bool.{cond}
use Prim.Native.Nat.{ℕ, ◌+◌}
use lib.Dec.{ltb}
use lib.ListN.{length}
use lib.Seq.{sets}
use Rattle.whole.proofs.Determined.{Determined}
use Rattle.spell.specs.Decimal.{Written, Told}

-- of each function: the buffer, and where the text ends
pub determined : (most : ℕ) (before : List ℕ) (at : ℕ) (bytes : List ℕ)
    → Determined (λ (r : List ℕ × ℕ). Written most before at bytes r.0 r.1)
determined most before at bytes = record {
  value = (sets before at bytes, at + length bytes);
  only = λ r w t. (w.holds t, w.ends t);
}

-- and of a writer that is lent a buffer of any room: how many bytes, and the buffer
pub told-determined : (room : ℕ) (bytes before : List ℕ) → Determined (λ (r : ℕ × List ℕ). Told room bytes before r.0 r.1)
told-determined room bytes before = record {
  value = (cond (ltb (length before) room) 0 (length bytes), cond (ltb (length before) room) before (sets before 0 bytes));
  only = λ r w t. (w.counted t, w.written t);
}
