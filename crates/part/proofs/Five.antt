-- The five places of a record, one by one. Assumes nothing.
use mathlib.Core.Path.{◌≡◌, refl}
use mathlib.Core.List.{List, [], ◌∷◌, map}
use Prim.Native.Nat.{ℕ, zero, suc, ◌≤◌, ◌<◌}
use native.Mathlib.Omega.{arith}
use lib.ListN.{length, get_or}
use lib.Ieee.{Float, nan}
use Rattle.floats.specs.Float.{bits}
use Rattle.part.specs.Contract.{five}

pub five-same : {A : Type 0} (f g : ℕ → A) → ((R : ℕ) → R < 5 → f R ≡ g R) → five f ≡ five g
unfolding five
five-same f g each = rw (each 0 (omega arith), each 1 (omega arith), each 2 (omega arith), each 3 (omega arith), each 4 (omega arith))

pub five-of : (l : List Float) → length l ≡ 5 → l ≡ five (λ R. get_or l R nan)
unfolding five
five-of (a ∷ b ∷ c ∷ d ∷ e ∷ []) long = refl
five-of [] long = absurd (omega arith)
five-of (a ∷ []) long = absurd (omega arith)
five-of (a ∷ b ∷ []) long = absurd (omega arith)
five-of (a ∷ b ∷ c ∷ []) long = absurd (omega arith)
five-of (a ∷ b ∷ c ∷ d ∷ []) long = absurd (omega arith)
five-of (a ∷ b ∷ c ∷ d ∷ e ∷ f ∷ l) long = absurd (omega arith)

pub five-map : (f : ℕ → Float) → map bits (five f) ≡ five (λ R. bits (f R))
unfolding five
five-map f = refl

pub five-at : (f : ℕ → Float) (i : ℕ) → i ≤ 4 → get_or (five f) i nan ≡ f i
unfolding five
five-at f zero h = refl
five-at f (suc zero) h = refl
five-at f (suc (suc zero)) h = refl
five-at f (suc (suc (suc zero))) h = refl
five-at f (suc (suc (suc (suc zero)))) h = refl
five-at f (suc (suc (suc (suc (suc i))))) h = absurd (omega arith)
