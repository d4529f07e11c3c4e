-- One argument fewer is left: every number of the net is within 1024 times what it was within. Assumes nothing.
use mathlib.Core.Path.{◌≡◌, refl}
use mathlib.Core.List.{List}
use Prim.Native.Nat.{ℕ, zero, suc, ◌*◌, ◌^◌, ◌≤◌, ◌<◌}
use native.Mathlib.Nat.{not-suc-le-zero, le_trans}
use native.Mathlib.Omega.{arith}
use lib.IntN.{ℤ}
use lib.Dec.{lit≤}
use Rattle.sums.specs.steps.Stepped.{Small, entry_most}

entry-up : (l : ℕ) → l ≤ 3 → 1024 * entry_most (suc l) ≡ entry_most l
unfolding entry_most
entry-up zero q = refl
entry-up (suc zero) q = refl
entry-up (suc (suc zero)) q = refl
entry-up (suc (suc (suc zero))) q = refl
entry-up (suc (suc (suc (suc l)))) q = absurd (omega arith)

pub small-up : (p : List ℤ) (l : ℕ) → l ≤ 3 → Small p (1024 * entry_most (suc l)) → Small p (entry_most l)
small-up p l h s = rw (entry-up l h) at s

-- a number that is still to be stepped
entry-low : (d : ℕ) → 0 < d → d ≤ 4 → entry_most d ≤ 2 ^ 42
unfolding entry_most
entry-low zero p q = absurd (not-suc-le-zero p)
entry-low (suc zero) p q = lit≤ tt
entry-low (suc (suc zero)) p q = lit≤ tt
entry-low (suc (suc (suc zero))) p q = lit≤ tt
entry-low (suc (suc (suc (suc zero)))) p q = lit≤ tt
entry-low (suc (suc (suc (suc (suc d))))) p q = absurd (omega arith)

pub small_low : (p : List ℤ) (d : ℕ) → 0 < d → d ≤ 4 → Small p (entry_most d) → Small p (2 ^ 42)
small_low p d h k s = record { most = λ i. le_trans (s.most i) (entry-low d h k) }

-- a travel is within the bound, however many arguments are left
pub entry-least : (d : ℕ) → d ≤ 4 → 4096 ≤ entry_most d
unfolding entry_most
entry-least zero p = lit≤ tt
entry-least (suc zero) p = lit≤ tt
entry-least (suc (suc zero)) p = lit≤ tt
entry-least (suc (suc (suc zero))) p = lit≤ tt
entry-least (suc (suc (suc (suc zero)))) p = lit≤ tt
entry-least (suc (suc (suc (suc (suc d))))) p = absurd (omega arith)
