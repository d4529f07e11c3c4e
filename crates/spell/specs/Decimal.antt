-- How a whole number and a named number are written, and what a buffer holds then. Assumes nothing.
use Rattle.std.specs.Prelude.{◌≡◌, true, false, cond, List, [], ◌∷◌, ◌++◌, ℕ, zero, suc, ◌+◌, ◌/◌, ◌%◌, ◌≤◌, ltb, ℤ, pos, negsuc, length}
use Rattle.std.proofs.lemmas.List.Edits.{sets}

-- the decimal digits of a number, the most significant first; so many are enough
unfoldable pub digits_of : ℕ → ℕ → List ℕ
digits_of zero n = []
digits_of (suc k) n = elim (ltb n 10) [ true ↦ (48 + n) ∷ [] | false ↦ digits_of k (n / 10) ++ ((48 + n % 10) ∷ []) ]

-- n + 1 digits are always enough for n
unfoldable pub digits : ℕ → List ℕ
digits n = digits_of (suc n) n

-- with a minus before them below 0
unfoldable pub decimal : ℤ → List ℕ
decimal (pos n) = digits n
decimal (negsuc n) = 45 ∷ digits (suc n)

-- `name n` and a newline
unfoldable pub named : List ℕ → ℕ → List ℕ
named name n = name ++ 32 ∷ digits n ++ 10 ∷ []

-- bytes were written to the front of a buffer, up to an end; the rest of it stays
pub record Front (bytes before now : List ℕ) (end : ℕ) : Type 0 where
  pub ends : end ≡ length bytes
  pub holds : now ≡ sets before 0 bytes

-- at most so many bytes were written from a place on, up to an end; the rest of the buffer stays
pub record Written (most : ℕ) (before : List ℕ) (at : ℕ) (bytes : List ℕ) (now : List ℕ) (end : ℕ) : Type 0 where
  pub ends : end ≡ at + length bytes
  pub holds : now ≡ sets before at bytes
  pub small : end ≤ at + most

-- bytes were written to the front of a lent buffer, where it has so much room; otherwise nothing is written and 0 is answered
pub record Told (room : ℕ) (bytes before : List ℕ) (count : ℕ) (now : List ℕ) : Type 0 where
  pub counted : count ≡ cond (ltb (length before) room) 0 (length bytes)
  pub written : now ≡ cond (ltb (length before) room) before (sets before 0 bytes)
  pub within : count ≤ length now
