-- The ring of the whole numbers. The library's sum, product and difference compute by the signs of their operands, so
-- that no law could be recognised in a goal; here stand shut copies of them, with every law and two sets of laws, by which
-- an identity of a ring is proved in a word. The same laws follow for the library's own symbols, and for powers.
-- Assumes nothing.
use mathlib.Core.Path.{◌≡◌, refl, sym, ◌∙◌, ap, ap₂, subst}
use Prim.Native.Nat.{ℕ, zero, suc, ◌+◌, ◌*◌, ◌^◌}
use native.Mathlib.Nat as Nat
use lib.IntN.{ℤ, pos, negsuc, neg_ℤ, ◌+ℤ◌, ◌-ℤ◌, ◌*ℤ◌, one, pow}
use lib.IntN.{+ℤ_idl, +ℤ_idr, +ℤ_one, -ℤ_one, +ℤ_assoc, +ℤ_comm, -ℤ-+ℤ_cancel, +ℤ-neg_ℤ_cancel, neg_ℤ-neg_ℤ, *ℤ-one, zero-*ℤ, *ℤ_comm, suc_ℤ-*ℤ, pred_ℤ-*ℤ, pow-succ'}

infixl 6 ◌⊕◌
infixl 6 ◌⊖◌
infixl 7 ◌⊗◌
infix 8 ⊝◌
unfoldable pub ◌⊕◌ : ℤ → ℤ → ℤ
a ⊕ b = a +ℤ b

unfoldable pub ◌⊖◌ : ℤ → ℤ → ℤ
a ⊖ b = a -ℤ b

unfoldable pub ◌⊗◌ : ℤ → ℤ → ℤ
a ⊗ b = a *ℤ b

unfoldable pub ⊝◌ : ℤ → ℤ
⊝ a = neg_ℤ a

pub ⊕-is : (a b : ℤ) → a ⊕ b ≡ a +ℤ b
unfolding ◌⊕◌
⊕-is a b = refl

pub pos-add : (m n : ℕ) → pos (m + n) ≡ pos m ⊕ pos n
unfolding ◌⊕◌
pos-add m n = refl

pub pos-mul : (m n : ℕ) → pos (m * n) ≡ pos m ⊗ pos n
unfolding ◌⊗◌
pos-mul m n = refl

-- ---- the sum
pub ⊕-assoc : (a b c : ℤ) → (a ⊕ b) ⊕ c ≡ a ⊕ (b ⊕ c)
unfolding ◌⊕◌
⊕-assoc = +ℤ_assoc

pub ⊕-comm : (a b : ℤ) → a ⊕ b ≡ b ⊕ a
unfolding ◌⊕◌
⊕-comm = +ℤ_comm

pub ⊕-left-comm : (a b c : ℤ) → a ⊕ (b ⊕ c) ≡ b ⊕ (a ⊕ c)
⊕-left-comm a b c = sym (⊕-assoc a b c) ∙ ap (λ x. x ⊕ c) (⊕-comm a b) ∙ ⊕-assoc b a c

pub zero-⊕ : (a : ℤ) → pos 0 ⊕ a ≡ a
unfolding ◌⊕◌
zero-⊕ = +ℤ_idl

pub ⊕-zero : (a : ℤ) → a ⊕ pos 0 ≡ a
unfolding ◌⊕◌
⊕-zero = +ℤ_idr

pub ruleset add-ac = (⊕-assoc, ⊕-comm, ⊕-left-comm)

-- ---- the product
pub ⊗-comm : (a b : ℤ) → a ⊗ b ≡ b ⊗ a
unfolding ◌⊗◌
⊗-comm = *ℤ_comm

pub zero-⊗ : (a : ℤ) → pos 0 ⊗ a ≡ pos 0
unfolding ◌⊗◌
zero-⊗ = zero-*ℤ

pub ⊗-zero : (a : ℤ) → a ⊗ pos 0 ≡ pos 0
⊗-zero a = ⊗-comm a (pos 0) ∙ zero-⊗ a

pub ⊗-one : (a : ℤ) → a ⊗ pos 1 ≡ a
unfolding ◌⊗◌ one
⊗-one = *ℤ-one

pub one-⊗ : (a : ℤ) → pos 1 ⊗ a ≡ a
one-⊗ a = ⊗-comm (pos 1) a ∙ ⊗-one a

-- 1 and −1 generate the whole numbers under the sum
generated : (P : ℤ → Type 0) → P (pos 1) → P (negsuc 0) → ((a b : ℤ) → P a → P b → P (a ⊕ b)) → (k : ℤ) → P k
unfolding ◌⊕◌
generated P o n add (pos zero) = add (pos 1) (negsuc 0) o n
generated P o n add (pos (suc k)) = subst P (+ℤ_one (pos k)) (add (pos k) (pos 1) (generated P o n add (pos k)) o)
generated P o n add (negsuc zero) = n
generated P o n add (negsuc (suc k)) = subst P (-ℤ_one (negsuc k)) (add (negsuc k) (negsuc 0) (generated P o n add (negsuc k)) n)

pub ⊝-⊗ : (a b : ℤ) → ⊝ a ⊗ b ≡ ⊝ (a ⊗ b)
unfolding ⊝◌ ◌⊗◌
⊝-⊗ (pos zero) b = zero-*ℤ b ∙ ap neg_ℤ (sym (zero-*ℤ b))
⊝-⊗ (pos (suc a)) (pos b) = refl
⊝-⊗ (pos (suc a)) (negsuc b) = sym (neg_ℤ-neg_ℤ _)
⊝-⊗ (negsuc a) (pos b) = sym (neg_ℤ-neg_ℤ _)
⊝-⊗ (negsuc a) (negsuc b) = refl

pub minus-⊗ : (a : ℤ) → negsuc 0 ⊗ a ≡ ⊝ a
unfolding ⊝◌
minus-⊗ a = ⊝-⊗ (pos 1) a ∙ ap neg_ℤ (one-⊗ a)

-- one more, and one less, in the first factor
up : (k c : ℤ) → (k ⊕ pos 1) ⊗ c ≡ k ⊗ c ⊕ pos 1 ⊗ c
unfolding ◌⊕◌ ◌⊗◌
up k c = ap (λ x. x *ℤ c) (+ℤ_one k) ∙ suc_ℤ-*ℤ k c ∙ ap (λ x. k *ℤ c +ℤ x) (sym (one-⊗ c))

down : (k c : ℤ) → (k ⊕ negsuc 0) ⊗ c ≡ k ⊗ c ⊕ negsuc 0 ⊗ c
unfolding ◌⊕◌ ◌⊗◌ ⊝◌
down k c = ap (λ x. x *ℤ c) (-ℤ_one k) ∙ pred_ℤ-*ℤ k c ∙ ap (λ x. k *ℤ c +ℤ x) (sym (minus-⊗ c))

-- the numbers that can be split off a first factor are all, since their sums are among them
pub ⊕-⊗ : (a b c : ℤ) → (a ⊕ b) ⊗ c ≡ a ⊗ c ⊕ b ⊗ c
⊕-⊗ a b c = generated (λ u. (k : ℤ) → (k ⊕ u) ⊗ c ≡ k ⊗ c ⊕ u ⊗ c) (λ k. up k c) (λ k. down k c) joined b a
  where
    joined : (u v : ℤ) → ((k : ℤ) → (k ⊕ u) ⊗ c ≡ k ⊗ c ⊕ u ⊗ c) → ((k : ℤ) → (k ⊕ v) ⊗ c ≡ k ⊗ c ⊕ v ⊗ c)
        → (k : ℤ) → (k ⊕ (u ⊕ v)) ⊗ c ≡ k ⊗ c ⊕ (u ⊕ v) ⊗ c
    joined u v f g k = rw (← ⊕-assoc k u v, g (k ⊕ u), f k, g u, ⊕-assoc)

pub ⊗-⊕ : (a b c : ℤ) → a ⊗ (b ⊕ c) ≡ a ⊗ b ⊕ a ⊗ c
⊗-⊕ a b c = ⊗-comm a (b ⊕ c) ∙ ⊕-⊗ b c a ∙ ap₂ ◌⊕◌ (⊗-comm b a) (⊗-comm c a)

pub ⊗-assoc : (a b c : ℤ) → (a ⊗ b) ⊗ c ≡ a ⊗ (b ⊗ c)
⊗-assoc a b c = generated (λ u. (u ⊗ b) ⊗ c ≡ u ⊗ (b ⊗ c))
    (rw (one-⊗ b, one-⊗ (b ⊗ c)))
    (rw (minus-⊗ b, minus-⊗ (b ⊗ c), ⊝-⊗))
    (λ u v f g. rw (⊕-⊗ u v b, ⊕-⊗ (u ⊗ b) (v ⊗ b) c, ⊕-⊗ u v (b ⊗ c), f, g))
    a

pub ⊗-left-comm : (a b c : ℤ) → a ⊗ (b ⊗ c) ≡ b ⊗ (a ⊗ c)
⊗-left-comm a b c = sym (⊗-assoc a b c) ∙ ap (λ x. x ⊗ c) (⊗-comm a b) ∙ ⊗-assoc b a c

pub ruleset mul-ac = (⊗-assoc, ⊗-comm, ⊗-left-comm)

-- both sides of an identity come to one sum of products: `simp ring`
pub ruleset ring = (add-ac, mul-ac, zero-⊕, ⊕-zero, zero-⊗, ⊗-zero, one-⊗, ⊗-one, ⊕-⊗, ⊗-⊕)

-- ---- the difference
pub ⊝-⊖ : (a : ℤ) → ⊝ a ≡ pos 0 ⊖ a
unfolding ◌⊖◌ ⊝◌
⊝-⊖ a = sym (+ℤ_idl (neg_ℤ a))

pub is-sub : (a b c : ℤ) → a ⊕ b ≡ c → a ≡ c ⊖ b
unfolding ◌⊕◌ ◌⊖◌
is-sub a b c e = sym (+ℤ-neg_ℤ_cancel a b) ∙ ap (λ x. x -ℤ b) e

pub sub-⊕ : (a b : ℤ) → a ⊖ b ⊕ b ≡ a
unfolding ◌⊕◌ ◌⊖◌
sub-⊕ = -ℤ-+ℤ_cancel

-- the laws below: that one side is the difference of the other is seen by adding what was subtracted
pub add-sub : (a b c : ℤ) → a ⊕ (b ⊖ c) ≡ (a ⊕ b) ⊖ c
add-sub a b c = is-sub _ c _ (⊕-assoc a (b ⊖ c) c ∙ ap (λ x. a ⊕ x) (sub-⊕ b c))

pub sub-add : (a b c : ℤ) → (a ⊖ b) ⊕ c ≡ (a ⊕ c) ⊖ b
sub-add a b c = ⊕-comm (a ⊖ b) c ∙ add-sub c a b ∙ ap (λ x. x ⊖ b) (⊕-comm c a)

pub sub-subl : (a b c : ℤ) → (a ⊖ b) ⊖ c ≡ a ⊖ (b ⊕ c)
sub-subl a b c = is-sub _ (b ⊕ c) _ (ap (λ x. a ⊖ b ⊖ c ⊕ x) (⊕-comm b c) ∙ sym (⊕-assoc (a ⊖ b ⊖ c) c b) ∙ ap (λ x. x ⊕ b) (sub-⊕ (a ⊖ b) c) ∙ sub-⊕ a b)

pub sub-subr : (a b c : ℤ) → a ⊖ (b ⊖ c) ≡ (a ⊕ c) ⊖ b
sub-subr a b c = is-sub _ b _ (ap (λ x. a ⊖ (b ⊖ c) ⊕ x) (sym (sub-⊕ b c)) ∙ sym (⊕-assoc _ (b ⊖ c) c) ∙ ap (λ x. x ⊕ c) (sub-⊕ a (b ⊖ c)))

pub sub-mul : (a b c : ℤ) → (a ⊖ b) ⊗ c ≡ a ⊗ c ⊖ b ⊗ c
sub-mul a b c = is-sub _ (b ⊗ c) _ (sym (⊕-⊗ (a ⊖ b) b c) ∙ ap (λ x. x ⊗ c) (sub-⊕ a b))

pub mul-sub : (a b c : ℤ) → a ⊗ (b ⊖ c) ≡ a ⊗ b ⊖ a ⊗ c
mul-sub a b c = ⊗-comm a (b ⊖ c) ∙ sub-mul b c a ∙ ap₂ ◌⊖◌ (⊗-comm b a) (⊗-comm c a)

-- an identity with differences on both sides: `simp subs (sub-eq _ _ _ _ (simp ring))`; with one on the right only, `is-sub`
pub ruleset subs = (⊝-⊖, add-sub, sub-add, sub-subl, sub-subr, mul-sub, sub-mul)

pub sub-eq : (a b c d : ℤ) → a ⊕ d ≡ c ⊕ b → a ⊖ b ≡ c ⊖ d
sub-eq a b c d e = is-sub _ d c (sub-add a b d ∙ sym (is-sub c b _ (sym e)))

-- ---- the same laws for the library's own symbols
pub negℤ-*ℤ : (a b : ℤ) → neg_ℤ a *ℤ b ≡ neg_ℤ (a *ℤ b)
unfolding ⊝◌ ◌⊗◌
negℤ-*ℤ = ⊝-⊗

pub *ℤ-negℤ : (a b : ℤ) → a *ℤ neg_ℤ b ≡ neg_ℤ (a *ℤ b)
*ℤ-negℤ a b = *ℤ_comm a (neg_ℤ b) ∙ negℤ-*ℤ b a ∙ ap neg_ℤ (*ℤ_comm b a)

-- ---- powers
pub pow-zero : (a : ℤ) → pow a 0 ≡ pos 1
unfolding pow one
pow-zero a = refl

pub pow-suc : (a : ℤ) (n : ℕ) → pow a (suc n) ≡ a ⊗ pow a n
unfolding ◌⊗◌
pow-suc = pow-succ'

pub pow_pos : (a n : ℕ) → pow (pos a) n ≡ pos (a ^ n)
pow_pos a zero = pow-zero (pos a) ∙ ap pos (sym (Nat.pow-zero a))
pow_pos a (suc n) = pow-suc (pos a) n ∙ ap (λ x. pos a ⊗ x) (pow_pos a n) ∙ sym (pos-mul a (a ^ n)) ∙ ap pos (sym (Nat.pow-succ' a n))

pub pow-add : (a : ℤ) (m n : ℕ) → pow a (m + n) ≡ pow a m ⊗ pow a n
pow-add a zero n = rw (Nat.zero-add, pow-zero, one-⊗)
pow-add a (suc m) n = rw (Nat.suc-add, pow-suc a (m + n), pow-suc a m, pow-add a m n, ⊗-assoc)
