-- Which path number an f64 is: the one that was found, and none where every one is ruled out. Assumes nothing.
use Rattle.std.proofs.Common.{◌≡◌, ℕ, ◌<◌, ◌≤◌, Bool, true, false, T, pos, sym, refl, subst, arith}
use lib.Ieee.{Float, eq}
use Rattle.request.proofs.Least.{found, not_found, least-le}
use Rattle.floats.specs.Float.{float}
use Rattle.floats.specs.Path.{path_of}
use Rattle.floats.proofs.Near.{Near, near}

-- a test that would lead to an absurdity is false
not_so : (b : Bool) → (b ≡ true → ⊥) → b ≡ false
not_so true h = absurd (h refl)
not_so false h = refl

pub equals : (x : Float) (k : ℕ) → k ≤ 1024 → eq (float (pos k)) x ≡ true → Near x k
unfolding float
equals x k h t = near x k h (subst T (sym t) tt)

-- a number that x equals is the only one
pub path_is : (x : Float) (k : ℕ) → k ≤ 1024 → eq (float (pos k)) x ≡ true → k ≡ path_of x
unfolding path_of
path_is x k h t =
    found {n = 1025} {bad = λ k. eq (float (pos k)) x} {k = k} (record { inside = omega arith; none = earlier }) (omega arith) t
  where
    earlier : (i : ℕ) → i < k → eq (float (pos i)) x ≡ false
    earlier i l = not_so _ (λ s. let p = (equals x i (omega arith) s).cut in let q = (equals x k h t).cut in omega arith)

-- where every number is ruled out there is none
pub path-none : (x : Float) → ((k : ℕ) → k ≤ 1024 → eq (float (pos k)) x ≡ true → ⊥) → 1025 ≡ path_of x
unfolding path_of
path-none x none =
    not_found {n = 1025} {bad = λ k. eq (float (pos k)) x} {k = 1025}
    (record { inside = omega arith; none = λ i l. not_so _ (none i (omega arith)) })
    (omega arith)

pub path-most : (x : Float) → path_of x ≤ 1025
unfolding path_of
path-most x = least-le 1025 (λ k. eq (float (pos k)) x)
