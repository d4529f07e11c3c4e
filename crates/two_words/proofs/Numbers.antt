-- What two arrays of words are worth, place by place. Assumes nothing.
use Rattle.std.proofs.Common.{◌≡◌, ℕ, zero, suc, ◌<◌, List, [], ◌∷◌, length, get_or, ℤ, pos, refl, ap, le_of_suc-le-suc, not-suc-le-zero, arith}
use Rattle.two_words.specs.Words.{two_words, numbers_of}

pub numbers-length : (high : List ℤ) (low : List ℕ) → length low ≡ length high → length (numbers_of high low) ≡ length high
unfolding numbers_of
numbers-length [] low e = refl
numbers-length (h ∷ high) [] e = absurd (omega arith)
numbers-length (h ∷ high) (l ∷ low) e = ap suc (numbers-length high low (omega arith))

pub numbers-at : (high : List ℤ) (low : List ℕ) → length low ≡ length high → (k : ℕ) → k < length high
    → get_or (numbers_of high low) k (pos 0) ≡ two_words (get_or high k (pos 0)) (get_or low k 0)
unfolding numbers_of
numbers-at [] low e k m = absurd (not-suc-le-zero m)
numbers-at (h ∷ high) [] e k m = absurd (omega arith)
numbers-at (h ∷ high) (l ∷ low) e zero m = refl
numbers-at (h ∷ high) (l ∷ low) e (suc k) m = numbers-at high low (omega arith) k (le_of_suc-le-suc m)
