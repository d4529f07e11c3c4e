-- Shares that do what an argument does: each form's step is the one step over its weights. Assumes nothing.
use mathlib.Core.Path.{◌≡◌, refl, sym, ap, ◌∙◌}
use Prim.Native.Nat.{ℕ, ◌+◌, ◌-◌, ◌≤◌}
use native.Mathlib.Omega.{arith}
use lib.IntN.{pos}
use Rattle.whole.proofs.Ring.{◌⊕◌, ◌⊗◌, ◌⊖◌, pos-add, is-sub}
use Rattle.net.specs.declared.Shares.{Shares}
use Rattle.net.specs.Net.{Net}
use Rattle.net.specs.Blossom.{Argument, along_u, along_v, within}
use Rattle.net.specs.Weighing.{mixed, Weighs}
use Rattle.net.proofs.Steps.{Weights, mix, weights_of, step-is-mix}

-- shares read as weights
unfoldable pub as_weights : Shares → Weights
as_weights w = record { x = pos w.x; y = pos w.y; z = pos w.z }

as-mixed : (w : Shares) (p : Net) (i j : ℕ) → mix (as_weights w) p i j ≡ mixed w p i j
unfolding mix mixed as_weights ◌⊕◌ ◌⊗◌
as-mixed w p i j = refl

pub weighs : (w : Shares) (a : Argument) → w.x + w.y + w.z ≡ 1024 → weights_of a ≡ as_weights w → Weighs w a
weighs w a one e = record { one = one; same = λ p i j. step-is-mix a p i j ∙ ap (λ v. mix v p i j) e ∙ as-mixed w p i j }

rest : (u : ℕ) → u ≤ 1024 → pos 1024 ⊖ pos u ≡ pos (1024 - u)
rest u m =
    let e : 1024 - u + u ≡ 1024 = omega arith in
    sym (is-sub (pos (1024 - u)) (pos u) (pos 1024) (sym (pos-add (1024 - u) u) ∙ ap pos e))

pub weighs-u : (u : ℕ) → u ≤ 1024 → Weighs (record { x = u; y = 0; z = 1024 - u }) (along_u (pos u))
unfolding weights_of as_weights
weighs-u u m = weighs (record { x = u; y = 0; z = 1024 - u }) (along_u (pos u)) (omega arith) (rw (rest u m))

pub weighs-v : (v : ℕ) → v ≤ 1024 → Weighs (record { x = 0; y = v; z = 1024 - v }) (along_v (pos v))
unfolding weights_of as_weights
weighs-v v m = weighs (record { x = 0; y = v; z = 1024 - v }) (along_v (pos v)) (omega arith) (rw (rest v m))

pub weighs-within : (x y z : ℕ) → x + y + z ≡ 1024 → Weighs (record { x = x; y = y; z = z }) (within (pos x) (pos y) (pos z))
unfolding weights_of as_weights
weighs-within x y z e = weighs (record { x = x; y = y; z = z }) (within (pos x) (pos y) (pos z)) e (refl)
