-- A whole number by two words: "a signed high word and an unsigned low word, worth high·2^64 + low" (rule Two words; 02, ticket 6).
-- The words are defined for every whole number; that no other two are worth it is `words-only` in proofs/Only.antt. Assumes nothing.
use Rattle.std.specs.Prelude.{◌≡◌, ℕ, ◌+◌, ◌-◌, ◌*◌, ◌/◌, ◌%◌, ◌^◌, ◌<◌, ◌≤◌, List, [], ◌∷◌, map, length, ℤ, pos, negsuc, ◌+ℤ◌, ◌*ℤ◌, neg_ℤ, slice_index_or, unsigned_abs, refl}

unfoldable pub two_words : ℤ → ℕ → ℤ
two_words high low = pos (2 ^ 64) *ℤ high +ℤ pos low

-- n over 2^64, rounded down: of −(a + 1) that is −(a/2^64 + 1)
unfoldable pub high_word : ℤ → ℤ
high_word (pos a) = pos (a / 2 ^ 64)
high_word (negsuc a) = negsuc (a / 2 ^ 64)

-- what that leaves
unfoldable pub low_word : ℤ → ℕ
low_word (pos a) = a % 2 ^ 64
low_word (negsuc a) = 2 ^ 64 - 1 - a % 2 ^ 64

-- worked out by hand: P12's value is the low word; the greatest numerator and the least; −1; both sides of 2^64 and of −2^64
-- a number, its high word and its low one
abbrev table : List (ℤ × ℤ × ℕ)
table =
    (pos (924 * 2 ^ 52), pos 0, 4161326055690338304)
    ∷ (pos (2704156 * 2 ^ 52), pos 660, 3584865303386914816)
    ∷ (neg_ℤ (pos (2704156 * 2 ^ 52)), negsuc 660, 14861878770322636800)
    ∷ (negsuc 0, negsuc 0, 18446744073709551615)
    ∷ (pos 18446744073709551615, pos 0, 18446744073709551615)
    ∷ (pos 18446744073709551616, pos 1, 0)
    ∷ (neg_ℤ (pos 18446744073709551616), negsuc 0, 0)
    ∷ (neg_ℤ (pos 18446744073709551617), negsuc 1, 18446744073709551615)
    ∷ []

high-words : map (λ r. high_word r.0) table ≡ map (λ r. r.1) table
unfolding high_word
high-words = refl

low-words : map (λ r. low_word r.0) table ≡ map (λ r. r.2) table
unfolding low_word
low-words = refl

-- what the places of two arrays are worth, high and low words side by side
unfoldable pub numbers_of : List ℤ → List ℕ → List ℤ
numbers_of [] low = []
numbers_of (h ∷ high) [] = []
numbers_of (h ∷ high) (l ∷ low) = two_words h l ∷ numbers_of high low

-- two words are worth n, and the low one is a word
pub record IsWords (n high : ℤ) (low : ℕ) : Type 0 where
  pub worth : two_words high low ≡ n
  pub below : low < 2 ^ 64

-- ---- what the functions ask
-- place s of an array of limbs is there, and its limbs are far below 2^63
pub record Joinable (sums : List ℤ) (s : ℕ) : Type 0 where
  pub here : 2 * s + 1 < length sums
  pub small : (k : ℕ) → unsigned_abs (slice_index_or sums k (pos 0)) ≤ 2 ^ 56

-- a numerator of r arguments: at most its denominator d·1024^r times the greatest travel, d less than 2^22
pub record Roundable (n : ℤ) (d r : ℕ) : Type 0 where
  pub few : r ≤ 4
  pub some : 0 < d
  pub most : d < 2 ^ 22
  pub within : unsigned_abs n ≤ d * 1024 ^ r * 4096

-- a size by two words that is so small that twice it over 1024^r is far below 2^63
pub record Doublable (high low r : ℕ) : Type 0 where
  pub few : r ≤ 4
  pub below : low < 2 ^ 64
  pub most : 2 ^ 64 * high + low < 2 ^ 34 * 1024 ^ r
