-- Numbers of two bytes, "all little-endian": the low byte first. A signed one that is negative stands as 2^16 more.
-- Their laws are in proofs/Words.antt. Assumes nothing.
use Rattle.std.specs.Prelude.{cond, List, [], ◌∷◌, ◌++◌, ℕ, ◌+◌, ◌*◌, ◌-◌, ◌/◌, ◌%◌, ◌<◌, ℤ, pos, neg_ℤ, nat_abs, ltb, get_or}
use Rattle.std.specs.Int.Signed.{mag, non_neg}

-- the numbers of two bytes are those below it, and those of half of it stand for numbers that are not negative
abbrev pub word_end : ℕ
word_end = 65536

abbrev pub half : ℕ
half = 32768

-- an unsigned number's two bytes
unfoldable pub word_bytes : ℕ → List ℕ
word_bytes word = word % 256 ∷ word / 256 ∷ []

-- the unsigned number at byte k
unfoldable pub word_at : List ℕ → ℕ → ℕ
word_at bytes k = get_or bytes k 0 + 256 * get_or bytes (k + 1) 0

-- a signed number as an unsigned one, and back
unfoldable pub unsigned : ℤ → ℕ
unsigned z = cond (non_neg z) (nat_abs z) (word_end - nat_abs z)

unfoldable pub signed : ℕ → ℤ
signed word = cond (ltb word half) (pos word) (neg_ℤ (pos (word_end - word)))

-- "two bytes signed": −32,768 to 32,767
abbrev pub Short : ℤ → Type 0
Short z = mag z < half

-- numbers one after the other, "two bytes signed each"
unfoldable pub number_bytes : List ℤ → List ℕ
number_bytes [] = []
number_bytes (z ∷ rest) = word_bytes (unsigned z) ++ number_bytes rest

-- number k of those that begin at byte `start`
unfoldable pub number_at : List ℕ → ℕ → ℕ → ℤ
number_at bytes start k = signed (word_at bytes (start + 2 * k))
