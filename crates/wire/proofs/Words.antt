-- Laws of two-byte numbers: what is written is what is read, unsigned and signed, one number and many. Assumes nothing.
use mathlib.Core.Path.{◌≡◌, refl, sym, ap, ◌∙◌}
use mathlib.Core.List.{List, [], ◌∷◌, ◌++◌, append_assoc}
use Prim.Native.Nat.{ℕ, zero, suc, ◌+◌, ◌*◌, ◌-◌, ◌≤◌, ◌<◌, ◌^◌, min}
use native.Mathlib.Nat.{add_assoc}
use native.Mathlib.Decide.{dec_lt}
use native.Mathlib.Numerals.{add-one}
use native.Mathlib.Omega.{arith}
use lib.IntN.{ℤ, pos, negsuc, neg_ℤ}
use lib.ListN.{length, get_or, take, get_or-eq_default}
use mir.Syntax.{w16}
use mir.Val.{to_z}
use lib.Seq.{get_or-append-add, take-suc, length-take-le}
use borrow.Author.Tests.{lt-ltb, le-ltb}
use Rattle.wire.specs.Words.{word_end, half, Short, word_bytes, word_at, unsigned, signed, number_bytes, number_at}

-- ---- a signed number and its unsigned one
pub signed_below : (word : ℕ) → word < half → signed word ≡ pos word
unfolding signed
signed_below word m = rw (lt-ltb word half m)

pub signed_above : (word : ℕ) → half ≤ word → signed word ≡ neg_ℤ (pos (word_end - word))
unfolding signed
signed_above word m = rw (le-ltb word half m)

-- it is the one that the machine has for those two bytes
pub signed-is : (word : ℕ) → word < word_end → to_z w16 word ≡ signed word
signed-is word m = go (dec_lt word half)
  where
    go : Dec (word < half) → to_z w16 word ≡ signed word
    go (yes h) = rw (lt-ltb word half h, signed_below word h)
    go (no h) =
        let e : word_end - word ≡ suc (word_end - suc word) = omega arith in
        rw (le-ltb word half (omega arith), signed_above word (omega arith), e)

negative-short : (x : ℕ) → x ≤ half → Short (neg_ℤ (pos x))
negative-short zero m = omega arith
negative-short (suc x) m = omega arith

pub signed-short : (word : ℕ) → word < word_end → Short (signed word)
signed-short word m = go (dec_lt word half)
  where
    go : Dec (word < half) → Short (signed word)
    go (yes h) = rw (signed_below word h) h
    go (no h) = rw (signed_above word (omega arith)) (negative-short (word_end - word) (omega arith))

pub signed-unsigned : (z : ℤ) → Short z → signed (unsigned z) ≡ z
unfolding unsigned
signed-unsigned (pos n) m = signed_below n m
signed-unsigned (negsuc n) m =
    let e : word_end - (word_end - suc n) ≡ suc n = omega arith in
    signed_above (word_end - suc n) (omega arith) ∙ ap (λ x. neg_ℤ (pos x)) e

-- ---- an unsigned number and its bytes
-- the next byte, also where its place is held at the greatest of 64 bits
pub next_byte : (bytes : List ℕ) (k n : ℕ) → length bytes < 2 ^ 64 → n ≡ min (k + 1) (2 ^ 64 - 1) → get_or bytes n 0 ≡ get_or bytes (k + 1) 0
next_byte bytes k n short e = go (dec_lt n (k + 1))
  where
    go : Dec (n < k + 1) → get_or bytes n 0 ≡ get_or bytes (k + 1) 0
    go (no h) = let same : n ≡ k + 1 = omega arith in rw same
    go (yes h) = get_or-eq_default bytes 0 {n = n} (omega arith) ∙ sym (get_or-eq_default bytes 0 {n = k + 1} (omega arith))

-- read further on
word_after : (before bytes : List ℕ) (k : ℕ) → word_at (before ++ bytes) (length before + k) ≡ word_at bytes k
unfolding word_at
word_after before bytes k = rw (add_assoc, get_or-append-add before bytes k, get_or-append-add)

pub word-of-bytes : (word : ℕ) (rest : List ℕ) → word_at (word_bytes word ++ rest) 0 ≡ word
unfolding word_bytes word_at
word-of-bytes word rest = omega arith

-- ---- many signed numbers
pub numbers-length : (l : List ℤ) → length (number_bytes l) ≡ 2 * length l
unfolding number_bytes word_bytes
numbers-length [] = refl
numbers-length (z ∷ l) = omega (arith, numbers-length l)

pub numbers_more : (l m : List ℤ) → number_bytes (l ++ m) ≡ number_bytes l ++ number_bytes m
unfolding number_bytes word_bytes
numbers_more [] m = refl
numbers_more (z ∷ l) m = ap (λ b. word_bytes (unsigned z) ++ b) (numbers_more l m)

-- one number more is written
pub numbers-next : (l : List ℤ) (k : ℕ) {z : ℤ} {word : ℕ} → k < length l → z ≡ get_or l k (pos 0) → word ≡ unsigned z
    → number_bytes (take k l) ++ word_bytes word ≡ number_bytes (take (k + 1) l)
unfolding number_bytes word_bytes
numbers-next l k m e f = rw (add-one, take-suc l k (pos 0) m, numbers_more, f, e)

pub numbers-before : (l : List ℤ) (k : ℕ) → k ≤ length l → length (number_bytes (take k l)) ≡ 2 * k
numbers-before l k m = rw (numbers-length, length-take-le k l m)

two : (k : ℕ) (z : ℤ) → 2 * suc k ≡ length (word_bytes (unsigned z)) + 2 * k
unfolding word_bytes
two k z = omega arith

-- each of them is read where it was written
each_word : (l : List ℤ) (rest : List ℕ) (k : ℕ) → k < length l → word_at (number_bytes l ++ rest) (2 * k) ≡ unsigned (get_or l k (pos 0))
unfolding number_bytes
each_word [] rest k m = absurd (omega arith)
each_word (z ∷ l) rest zero m = rw append_assoc (word-of-bytes (unsigned z) (number_bytes l ++ rest))
each_word (z ∷ l) rest (suc k) m =
    let e : 2 * suc k ≡ length (word_bytes (unsigned z)) + 2 * k = two k z in
    rw (e, append_assoc, word_after) (each_word l rest k (omega arith))

pub number_read : (before : List ℕ) (l : List ℤ) (rest : List ℕ) (k : ℕ) → k < length l → Short (get_or l k (pos 0))
    → number_at (before ++ (number_bytes l ++ rest)) (length before) k ≡ get_or l k (pos 0)
unfolding number_at
number_read before l rest k m s = rw (word_after, each_word l rest k m) (signed-unsigned _ s)
