-- Bytes of a buffer that come to its front, and bytes that are read behind those that stand there. Assumes nothing.
use mathlib.Core.Path.{◌≡◌, sym, ap, ◌∙◌}
use mathlib.Core.List.{List}
use Prim.Native.Nat.{ℕ, ◌+◌, ◌-◌, ◌≤◌}
use native.Mathlib.Omega.{arith}
use Rattle.std.specs.List.{copy_within}
use Rattle.std.proofs.lemmas.List.Edits.{take-paste}
use lib.ListN.{length, take, drop, length-drop}
use lib.Seq.{take-add, drop_at, length-take-le}

-- the part of a front
pub middle : (w : List ℕ) (at end : ℕ) → at ≤ end → end ≤ length w → take (end - at) (drop at w) ≡ drop at (take end w)
middle w at end l m =
    let e : end ≡ at + (end - at) = omega arith in
    sym (ap (λ (n : ℕ). drop at (take n w)) e ∙ ap (drop at) (take-add at (end - at) w)
    ∙ drop_at (take at w) (take (end - at) (drop at w)) at (length-take-le at w (omega arith)))

-- bytes that came to the front
pub slid : (w : List ℕ) {t : List ℕ} (at end : ℕ) → t ≡ copy_within w at end 0 → at ≤ end → end ≤ length w
    → take (end - at) t ≡ take (end - at) (drop at w)
slid w at end e l m =
    let n : end - at ≡ 0 + (end - at) = omega arith in
    rw e
    (ap (λ (n : ℕ). take n (copy_within w at end 0)) n ∙ take-paste w 0 (drop at w) (end - at) (omega arith) (rw length-drop (omega arith)))
