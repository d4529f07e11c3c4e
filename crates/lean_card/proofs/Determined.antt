-- The contract of `lean_card` fixes, over bits, the code and every place of both lent arrays: any two results that it allows are
-- equal. Assumes nothing.
use mathlib.Core.Path.{◌≡◌, sym, ◌∙◌}
use mathlib.Core.List.{List, map}
use Prim.Native.Nat.{ℕ}
use lib.Ieee.{Float}
use Rattle.whole.proofs.Determined.{Determined}
use Rattle.request.specs.Request.{Request}
use Rattle.floats.specs.Float.{bits}
use Rattle.lean_card.specs.Driven.{Driven}

-- what a call of the card leaves: its code, the bits of the numbers, and the words
pub record Record : Type 0 where
  pub code : ℕ
  pub bits : List ℕ
  pub words : List ℕ

pub driven-determined : (rq : Request) (line : ℕ) (numerators : List Float) (words : List ℕ)
    → Determined (λ (r : Record). (numerators' : List Float) × (map bits numerators' ≡ r.bits) × Driven rq line numerators words r.code
    numerators' r.words)
driven-determined rq line numerators words = record {
  value = record { code = _; bits = _; words = _ };
  only = λ r a t. record {
    code = a.2.code_is t;
    bits = (sym a.1 ∙ a.2.bits_are) t;
    words = a.2.words_is t;
  };
}
