-- A list by what stands at each of its places. Assumes nothing.
use Rattle.std.specs.Prelude.{List, [], ◌∷◌, ◌++◌, ℕ, zero, suc, drop}

-- f 0, f 1, … below n
unfoldable pub list_below {ℓ} : {A : Type ℓ} → ℕ → (ℕ → A) → List A
list_below zero f = []
list_below (suc n) f = f zero ∷ list_below n (λ k. f (suc k))

-- the first count places are written and all later places stay; with count 0 nothing changes
unfoldable pub afterwards {ℓ} : {A : Type ℓ} → ℕ → (ℕ → A) → List A → List A
afterwards count f l = list_below count f ++ drop count l
