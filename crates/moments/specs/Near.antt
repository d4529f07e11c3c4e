-- A reading of L steps, each rounded to within half a part, is within L halves of a part of the curve by Bernstein's formula:
-- each later step weighs the earlier errors by factors that add up to one. Assumes nothing.
use Rattle.std.specs.Prelude.{◌≡◌, List, map, ℕ, zero, suc, ◌+◌, ◌*◌, ◌-◌, ◌^◌, ◌≤◌, ◌<◌, ℤ, pos, nat_abs, ◌+ℤ◌, ◌*ℤ◌, ◌-ℤ◌, length, get_or}
use Rattle.std.proofs.Common.{sym, ◌∙◌, ap, ap₂, subst, subst₂, suc-mul, mul_left_comm, arith}
use Rattle.std.proofs.Math.Nat.{pow-succ'}
use Rattle.std.proofs.Math.IntN.{pow}
use Rattle.std.proofs.lemmas.List.{length-map}
use Rattle.whole.specs.Sum.{sum_over}
use Rattle.whole.specs.Choose.{choose}
use Rattle.whole.proofs.Ring.{◌⊕◌, ◌⊖◌, ◌⊗◌, ring, mul-ac, subs, sub-eq, is-sub, one-⊗, ⊗-zero, zero-⊕, ⊕-comm, pos-add, pos-mul}
use Rattle.whole.proofs.Sums.{sum-cong}
use Rattle.whole.proofs.Bound.{◌⊑◌, ⊑-of, ⊑-le, ⊑-add, ⊑-scale}
use Rattle.whole.proofs.Rounding.{nearest-error}
use Rattle.net.specs.Reading.{bernstein, drawn}
use Rattle.net.proofs.Bernstein.{bernstein-is, bernstein-zero, bernstein-suc, bernstein-cong, bernstein-linear}
use Rattle.net.proofs.Rounded.{rest_of, within_half}
use Rattle.tick.specs.Reading.{parts, carried, between, lower, after, reading}
use Rattle.tick.proofs.Steps.{lower-length, lower-at, after-zero, after-suc, carried-at}

-- two errors, one after the other: of A, over M, from d times B, and of B, over c, from C
pub nearer : (c d m n : ℕ) (M A B C : ℤ) → nat_abs (pos 2 ⊗ (M ⊗ A ⊖ pos d ⊗ B)) ≤ m → nat_abs (pos 2 ⊗ (pos c ⊗ B ⊖ C)) ≤ n
    → nat_abs (pos 2 ⊗ (pos c ⊗ M ⊗ A ⊖ pos d ⊗ C)) ≤ c * m + d * n
nearer c d m n M A B C p q =
    ⊑-le (subst₂ ◌⊑◌ (sym (joined (pos c) (pos d))) (sum c d m n) (⊑-add (⊑-scale c (⊑-of p)) (⊑-scale d (⊑-of q))))
  where
    joined : (c d : ℤ) → pos 2 ⊗ (c ⊗ M ⊗ A ⊖ d ⊗ C) ≡ c ⊗ (pos 2 ⊗ (M ⊗ A ⊖ d ⊗ B)) ⊕ d ⊗ (pos 2 ⊗ (c ⊗ B ⊖ C))
    joined c d = simp subs (sub-eq _ _ _ _ (simp ring))

    sum : (c d m n : ℕ) → pos c ⊗ pos m ⊕ pos d ⊗ pos n ≡ pos (c * m + d * n)
    sum c d m n = sym (pos-add (c * m) (d * n) ∙ ap₂ ◌⊕◌ (pos-mul c m) (pos-mul d n))

-- what lies between two values, times 1024, without rounding
abbrev exact : ℕ → ℤ → ℤ → ℤ
exact k a b = pos k ⊗ b ⊕ (pos 1024 ⊖ pos k) ⊗ a

step-error : (k : ℕ) (a b : ℤ) → k ≤ 1024 → nat_abs (pos 2 ⊗ (pos 1024 ⊗ between k a b ⊖ exact k a b)) ≤ 1024
unfolding between ◌⊕◌ ◌⊖◌ ◌⊗◌
step-error k a b early =
    let whole = pos (1024 - k) *ℤ a +ℤ pos k *ℤ b in
    let same : whole ≡ pos k ⊗ b ⊕ (pos 1024 ⊖ pos k) ⊗ a =
    ap (λ x. x ⊗ a ⊕ pos k ⊗ b) (sym (rest_of k 1024 early)) ∙ ⊕-comm ((pos 1024 ⊖ pos k) ⊗ a) (pos k ⊗ b) in
    subst (λ e. nat_abs (pos 2 *ℤ (pos 1024 *ℤ between k a b -ℤ e)) ≤ 1024) same (nearest-error whole 1024 (omega arith))

order : (A B C s : ℤ) → A ⊗ B ⊗ (C ⊗ s) ≡ C ⊗ A ⊗ B ⊗ s
order A B C s = simp mul-ac

out : (C p s : ℤ) → pos 2 ⊗ (C ⊗ pos 1024 ⊗ p ⊖ C ⊗ s) ≡ C ⊗ (pos 2 ⊗ (pos 1024 ⊗ p ⊖ s))
out C p s = simp subs (sub-eq _ _ _ _ (simp ring))

-- an error is scaled as its two sides are
scaled : (c : ℕ) (p s : ℤ) → nat_abs (pos 2 ⊗ (pos 1024 ⊗ p ⊖ s)) ≤ 1024 → nat_abs (pos 2 ⊗ (pos (c * 1024) ⊗ p ⊖ pos c ⊗ s)) ≤ c * 1024
scaled c p s m = ⊑-le (subst₂ ◌⊑◌ (sym (ap (λ x. pos 2 ⊗ (x ⊗ p ⊖ pos c ⊗ s)) (pos-mul c 1024) ∙ out (pos c) p s)) (sym (pos-mul c 1024)) (⊑-scale c (⊑-of m)))

-- curves of points that are each within half of an exact one, over 1024
curves-near : (n k : ℕ) (P e : ℕ → ℤ) → k ≤ 1024 → ((i : ℕ) → i ≤ n → nat_abs (pos 2 ⊗ (pos 1024 ⊗ P i ⊖ e i)) ≤ 1024)
    → nat_abs (pos 2 ⊗ (pos 1024 ⊗ bernstein n (pos k) (pos 1024 ⊖ pos k) P ⊖ bernstein n (pos k) (pos 1024 ⊖ pos k) e)) ≤ 1024 * 1024 ^ n
unfolding ◌⊖◌ ◌⊗◌
curves-near n k P e early each =
    let all : sum_over n (λ i j. pow (pos k) i ⊗ pow (pos 1024 ⊖ pos k) j ⊗ (pos (choose n i) ⊗ e i)) ≡ bernstein n (pos k) (pos 1024 ⊖ pos k) e =
    sum-cong n _ _ (λ i j. order (pow (pos k) i) (pow (pos 1024 ⊖ pos k) j) (pos (choose n i)) (e i)) ∙ sym (bernstein-is n (pos k) (pos 1024 ⊖ pos k) e) in
    subst (λ s. nat_abs (pos 2 *ℤ (pos 1024 *ℤ bernstein n (pos k) (pos 1024 -ℤ pos k) P -ℤ s)) ≤ 1024 * 1024 ^ n) all
    (within_half n 1024 k 1024 P (λ i. pos (choose n i) ⊗ e i) early (λ i j h. scaled (choose n i) (P i) (e i) (each i (omega arith))))

-- after n steps
steps-near : (n k : ℕ) (l : List ℤ) → k ≤ 1024 → n < length l
    → nat_abs (pos 2 ⊗ (pos (1024 ^ n) ⊗ after n k l ⊖ bernstein n (pos k) (pos 1024 ⊖ pos k) (λ i. get_or l i (pos 0)))) ≤ n * 1024 ^ n
steps-near zero k l early h =
    let first = bernstein-zero (pos k) (pos 1024 ⊖ pos k) (λ i. get_or l i (pos 0)) in
    let none = ap₂ (λ a b. pos 2 ⊗ (pos 1 ⊗ a ⊖ b)) (after-zero k l) first ∙ nothing (get_or l 0 (pos 0)) in
    subst (λ z. nat_abs z ≤ 0) (sym none) (omega arith)
  where
    nothing : (x : ℤ) → pos 2 ⊗ (pos 1 ⊗ x ⊖ x) ≡ pos 0
    nothing x = ap (λ y. pos 2 ⊗ (y ⊖ x)) (one-⊗ x) ∙ ap (λ y. pos 2 ⊗ y) (sym (is-sub (pos 0) x x (zero-⊕ x))) ∙ ⊗-zero (pos 2)
steps-near (suc n) k l early h =
    let z = pos 1024 ⊖ pos k in
    let b : ℕ → ℤ = λ i. get_or l i (pos 0) in
    let w : ℕ → ℤ = λ i. get_or (lower k l) i (pos 0) in
    let shorter : n < length (lower k l) = let e = lower-length k l in omega arith in
    let before : nat_abs (pos 2 ⊗ (pos (1024 ^ n) ⊗ after n k (lower k l) ⊖ pos 1 ⊗ bernstein n (pos k) z w)) ≤ n * 1024 ^ n =
    rw (one-⊗ (bernstein n (pos k) z w)) (steps-near n k (lower k l) early shorter) in
    let one : nat_abs (pos 2 ⊗ (pos 1024 ⊗ bernstein n (pos k) z w ⊖ bernstein n (pos k) z (λ i. exact k (b i) (b (suc i))))) ≤ 1024 * 1024 ^ n =
    curves-near n k w (λ i. exact k (b i) (b (suc i))) early (λ i m. rw (lower-at k l i (omega arith)) (step-error k (b i) (b (suc i)) early)) in
    let both = nearer 1024 1 (n * 1024 ^ n) (1024 * 1024 ^ n) (pos (1024 ^ n)) (after n k (lower k l)) (bernstein n (pos k) z w) _ before one in
    rw (pow-succ' 1024 n, pos-mul 1024 (1024 ^ n), after-suc n k l, bernstein-suc n (pos k) z b, ← count n (1024 ^ n)) (rw one-⊗ at both)
  where
    count : (n P : ℕ) → 1024 * (n * P) + 1 * (1024 * P) ≡ suc n * (1024 * P)
    count n P = omega (arith, mul_left_comm n 1024 P, suc-mul n (1024 * P))

-- a reading of L + 1 points, from the curve that is drawn with them
pub reading-near : (points : List ℤ) (k L : ℕ) → k ≤ 1024 → length points ≡ suc L
    → nat_abs (pos 2 ⊗ (pos (1024 ^ L) ⊗ reading points k ⊖ pos parts ⊗ drawn L points k 1024)) ≤ L * 1024 ^ L
unfolding reading drawn carried ◌⊖◌ ◌⊗◌
reading-near points k L early long =
    let less : length points - 1 ≡ L = omega arith in
    let some : L < length (map carried points) = rw (length-map points carried) (omega arith) in
    rw less
    (subst (λ s. nat_abs (pos 2 ⊗ (pos (1024 ^ L) ⊗ after L k (map carried points) ⊖ s)) ≤ L * 1024 ^ L)
    (bernstein-cong L (pos k) (pos 1024 ⊖ pos k) _ _ (carried-at points)
    ∙ (bernstein-linear L (pos k) (pos 1024 ⊖ pos k)).scale (pos parts) (λ i. get_or points i (pos 0)))
    (steps-near L k (map carried points) early some))
