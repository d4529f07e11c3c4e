-- What is cut of a part is fixed: any two results that the contract allows are equal. Assumes nothing.
use mathlib.Core.List.{List}
use Prim.Native.Nat.{ℕ}
use Rattle.whole.proofs.Determined.{Determined}
use Rattle.text.specs.pieces.Kept.{Cuts}
use Rattle.text.specs.declared.pieces.Piece.{Piece}

-- of `cut`: what it answers, and the array in which the line is kept
pub cut-determined : (part : List ℕ) (at : ℕ) (before : List ℕ) (kept : ℕ)
    → Determined (λ (r : Piece × List ℕ). Cuts part at before kept r.1 r.0)
cut-determined part at before kept = record {
  value = (record { at = _; kept = _; ended = _ }, _);
  only = λ r e t. (record { at = e.next t; kept = e.keeps.ends t; ended = e.ended t }, e.keeps.holds t);
}
