-- The table of a ride: term c is path point c. Assumes nothing.
use Rattle.std.specs.Prelude.{◌≡◌, List, [], ◌∷◌, ℕ, ◌≤◌, ℤ, pos}
use Rattle.whole.specs.Choose.{choose}
use Rattle.request.specs.declared.Head.{Head}
use Rattle.net.specs.Net.{number_at}
use Rattle.sums.specs.gather.Table.{key_at, weight_at, share_at}

-- the four numbers of a term
abbrev pub term_numbers : ℕ → ℕ → ℕ → ℕ → List ℕ
term_numbers key weight a b = key ∷ weight ∷ a ∷ b ∷ []

pub record PointAt (h : Head) (path : List ℤ) (t : List ℕ) (c : ℕ) : Type 0 where
  pub key : key_at t c ≡ c
  pub weight : weight_at t c ≡ choose h.N c
  pub first : pos (share_at t c 2) ≡ number_at h path c 0
  pub second : (h.form ≡ 1 → ⊥) → pos (share_at t c 3) ≡ number_at h path c 1
  pub first_most : share_at t c 2 ≤ 1024
  pub second_most : share_at t c 3 ≤ 1024

pub record Filled (h : Head) (path : List ℤ) (t : List ℕ) : Type 0 where
  pub each : (c : ℕ) → c ≤ h.N → PointAt h path t c
