-- When a contract fixes its result: there is one value that every result it allows is equal to. Each public entry gives its
-- value, and any two results that its contract allows are then equal. Assumes nothing.
use mathlib.Core.Path.{◌≡◌, sym, ◌∙◌}

pub record Determined {A : Type 0} (Allowed : A → Type 0) : Type 0 where
  pub value : A
  pub only : (r : A) → Allowed r → r ≡ value

pub any-two : {A : Type 0} {Allowed : A → Type 0} → Determined Allowed → (r s : A) → Allowed r → Allowed s → r ≡ s
any-two d r s p q = d.only r p ∙ sym (d.only s q)
