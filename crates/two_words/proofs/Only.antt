-- A whole number has two words, and no other two are worth it. Assumes nothing.
use Rattle.std.proofs.Common.{◌≡◌, ℕ, zero, suc, ◌+◌, ◌-◌, ◌*◌, ◌/◌, ◌%◌, ◌^◌, ◌<◌, ◌≤◌, ℤ, pos, negsuc, ◌+ℤ◌, ◌*ℤ◌, neg_ℤ, nat_abs, sym, refl, ap, ◌∙◌, ap₂, arith, lt-ltb}
use native.Mathlib.Nat.{div-add-mod}
use Rattle.whole.proofs.Ring.{◌⊕◌, ◌⊗◌, ring, is-sub}
use Rattle.two_words.specs.Words.{two_words, high_word, low_word, IsWords}
use Rattle.two_words.proofs.Raising.{up}

pub cancel : (a b k : ℤ) → a ⊕ k ≡ b ⊕ k → a ≡ b
cancel a b k e = is-sub a k (b ⊕ k) e ∙ sym (is-sub b k (b ⊕ k) refl)

pub words-only : (n a b : ℤ) (x y : ℕ) → IsWords n a x → IsWords n b y → (a ≡ b) × (x ≡ y)
unfolding ◌⊕◌ ◌⊗◌ two_words
words-only n a b x y p q =
    (cancel a b (pos k) (up a k (omega arith) ∙ ap pos high ∙ sym (up b k (omega arith))), omega (arith, same, high, p.below, q.below))
  where
    -- moved up so far that nothing is negative
    k : ℕ
    k = nat_abs a + nat_abs b

    raised : (A a k x : ℤ) → A ⊗ (a ⊕ k) ⊕ x ≡ A ⊗ a ⊕ x ⊕ A ⊗ k
    raised A a k x = simp ring

    at : (a : ℤ) (x : ℕ) → nat_abs a ≤ k → two_words a x ≡ n → pos (2 ^ 64 * nat_abs (a +ℤ pos k) + x) ≡ n +ℤ pos (2 ^ 64) *ℤ pos k
    at a x h e =
        ap (λ z. pos (2 ^ 64) *ℤ z +ℤ pos x) (sym (up a k h))
        ∙ raised (pos (2 ^ 64)) a (pos k) (pos x)
        ∙ ap (λ z. z +ℤ pos (2 ^ 64) *ℤ pos k) e

    same : 2 ^ 64 * nat_abs (a +ℤ pos k) + x ≡ 2 ^ 64 * nat_abs (b +ℤ pos k) + y
    same = ap nat_abs (at a x (omega arith) p.worth ∙ sym (at b y (omega arith) q.worth))

    high : nat_abs (a +ℤ pos k) ≡ nat_abs (b +ℤ pos k)
    high = omega (arith, same, p.below, q.below)

-- a negative high word
pub below-zero : (h x : ℕ) → x < 2 ^ 64 → two_words (negsuc h) x ≡ negsuc (2 ^ 64 * suc h - suc x)
unfolding two_words
below-zero h x l = less (2 ^ 64 * suc h) (omega arith)
  where
    less : (z : ℕ) → x < z → neg_ℤ (pos z) +ℤ pos x ≡ negsuc (z - suc x)
    less zero l = absurd (omega arith)
    less (suc z) l = rw (lt-ltb x (suc z) l)

pub words_are : (n : ℤ) → IsWords n (high_word n) (low_word n)
unfolding two_words high_word low_word
words_are (pos a) = record { worth = ap pos (div-add-mod a (2 ^ 64)); below = omega arith }
words_are (negsuc a) = record {
  worth = below-zero (a / 2 ^ 64) (2 ^ 64 - 1 - a % 2 ^ 64) (omega arith) ∙ ap negsuc (omega arith);
  below = omega arith;
}

-- whatever two words are worth n, they are these
pub words-fixed : (n h : ℤ) (x : ℕ) → IsWords n h x → (h ≡ high_word n) × (x ≡ low_word n)
words-fixed n h x w = words-only n h (high_word n) x (low_word n) w (words_are n)

pub words-worth : (n h : ℤ) (x : ℕ) → h ≡ high_word n → x ≡ low_word n → two_words h x ≡ n
words-worth n h x e f = ap₂ two_words e f ∙ (words_are n).worth
