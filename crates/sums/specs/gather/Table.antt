-- A table of terms: four numbers a term, its key, its weight, and two path numbers. What a term gives to an argument depends on the
-- group: 2 is a u argument, 3 a v argument, and each reads the number that stands there; 0 is an argument of a triangle, which
-- reads both. Assumes nothing.
use Rattle.std.specs.Prelude.{cond, List, ℕ, ◌+◌, ◌*◌, ◌-◌, ◌≤◌, ◌<◌, pos, eqb, get_or}
use Rattle.net.specs.Blossom.{Argument, along_u, along_v, within}
use Rattle.net.specs.runs.Terms.{Term}
use Rattle.net.specs.runs.Ride.{below}

abbrev pub key_at : List ℕ → ℕ → ℕ
key_at t c = get_or t (4 * c) 0

abbrev pub weight_at : List ℕ → ℕ → ℕ
weight_at t c = get_or t (4 * c + 1) 0

-- the number at 2 or at 3
abbrev pub share_at : List ℕ → ℕ → ℕ → ℕ
share_at t c i = get_or t (4 * c + i) 0

unfoldable pub argument_of : List ℕ → ℕ → ℕ → Argument
argument_of t g c =
    cond (eqb g 2) (along_u (pos (share_at t c 2)))
    (cond (eqb g 3) (along_v (pos (share_at t c 3)))
    (within (pos (share_at t c 2)) (pos (share_at t c 3)) (pos (1024 - share_at t c 2 - share_at t c 3))))

unfoldable pub term_of : List ℕ → ℕ → ℕ → Term
term_of t g c = record { weight = weight_at t c; key = key_at t c; argument = argument_of t g c }

-- the terms as group g takes them
unfoldable pub terms_of : List ℕ → ℕ → ℕ → List Term
terms_of t count g = below count (term_of t g)

-- a table of `count` terms whose keys are at most `most`
pub record Good (t : List ℕ) (count most : ℕ) : Type 0 where
  pub few : count ≤ 10
  pub some : (c : ℕ) → c < count → 0 < weight_at t c
  pub keys : (c : ℕ) → c < count → key_at t c ≤ most

-- each number is within 1024; and where both are of one argument, both together are
pub record Inside (t : List ℕ) (count : ℕ) : Type 0 where
  pub first : (c : ℕ) → c < count → share_at t c 2 ≤ 1024
  pub second : (c : ℕ) → c < count → share_at t c 3 ≤ 1024

pub record Even (t : List ℕ) (count : ℕ) : Type 0 where
  pub both : (c : ℕ) → c < count → share_at t c 2 + share_at t c 3 ≤ 1024
