-- A number of 128 bits and its two words, as the machine writes them. Assumes nothing.
use Rattle.std.proofs.Common.{◌≡◌, ℕ, ◌%◌, ◌^◌, ◌<◌, ℤ, pos, negsuc, refl, arith, of_z, to_z, w64, SFits}
use Rattle.std.proofs.lemmas.Int.{to_z-of_z}
use lib.Signed.{mag, shr_z}
use mir.Syntax.{w128}
use Rattle.two_words.specs.Words.{high_word, low_word}

high-word-is : (n : ℤ) → shr_z n (2 ^ 64) ≡ high_word n
unfolding high_word
high-word-is (pos a) = refl
high-word-is (negsuc a) = refl

high-word-fits : (n : ℤ) → mag n < 2 ^ 127 → SFits w128 (high_word n) × SFits w64 (high_word n)
unfolding high_word
high-word-fits (pos a) h = (record { sfits = omega arith }, record { sfits = omega arith })
high-word-fits (negsuc a) h = (record { sfits = omega arith }, record { sfits = omega arith })

low-word-is : (n : ℤ) → mag n < 2 ^ 127 → of_z w128 n % 2 ^ 64 ≡ low_word n
unfolding low_word
low-word-is (pos a) h = refl
low-word-is (negsuc a) h = omega arith

pub high-written : (n : ℤ) → SFits w128 n → to_z w64 (of_z w64 (to_z w128 (of_z w128 (shr_z (to_z w128 (of_z w128 n)) (2 ^ 64))))) ≡ high_word n
high-written n f =
    let h = high-word-fits n f.sfits in
    rw (to_z-of_z w128 n f, high-word-is, to_z-of_z w128 (high_word n) h.0) (to_z-of_z w64 (high_word n) h.1)

pub low-written : (n : ℤ) (x : ℕ) → SFits w128 n → x ≡ of_z w128 (to_z w128 (of_z w128 n)) → x % 2 ^ 64 ≡ low_word n
low-written n x f e = rw (e, to_z-of_z w128 n f) (low-word-is n f.sfits)
