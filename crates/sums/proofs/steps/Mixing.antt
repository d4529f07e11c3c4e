-- A step with one product less: 1024 of the number itself, and of each neighbour what it is beyond it; and how large it is.
-- Assumes nothing.
use mathlib.Core.Path.{◌≡◌, sym, ◌∙◌, ap}
use Prim.Native.Nat.{ℕ, ◌+◌, ◌*◌, ◌-◌, ◌≤◌}
use native.Mathlib.Nat.{mul-le-mul, le_trans, le_of_eq}
use native.Mathlib.Omega.{arith}
use lib.IntN.{ℤ, pos, nat_abs, ◌+ℤ◌, ◌-ℤ◌, ◌*ℤ◌}
use Rattle.whole.proofs.Ring.{◌⊕◌, ◌⊗◌, ◌⊖◌, ring, subs, is-sub, sub-eq, pos-add}
use Rattle.whole.proofs.Bound.{nat_abs-add, nat_abs_mul}
use Rattle.net.proofs.Size.{shares-most, mixed-most}
use Rattle.sums.specs.steps.Stepped.{between, among}

-- ---- toward one number
toward : (A S p q : ℤ) → A ⊗ p ⊕ S ⊗ (q ⊖ p) ≡ (A ⊖ S) ⊗ p ⊕ S ⊗ q
toward A S p q = simp subs (sub-eq _ _ _ _ (simp ring))

pub between-again : (s : ℕ) (p q : ℤ) → pos 1024 *ℤ p +ℤ pos s *ℤ (q -ℤ p) ≡ between s p q
unfolding between ◌⊕◌ ◌⊗◌ ◌⊖◌
between-again s p q = toward (pos 1024) (pos s) p q

rest_is : (s : ℕ) → s ≤ 1024 → pos 1024 -ℤ pos s ≡ pos (1024 - s)
unfolding ◌⊖◌
rest_is s h =
    let e : 1024 - s + s ≡ 1024 = omega arith in
    sym (is-sub (pos (1024 - s)) (pos s) (pos 1024) (sym (pos-add (1024 - s) s) ∙ ap pos e))

pub between-most : (s : ℕ) (p q : ℤ) (M : ℕ) → s ≤ 1024 → nat_abs p ≤ M → nat_abs q ≤ M → nat_abs (between s p q) ≤ 1024 * M
unfolding between
between-most s p q M h a b =
    let e : 1024 - s + 0 + s ≡ 1024 = omega arith in
    rw (rest_is s h)
    (le_trans (omega (arith, nat_abs-add (pos (1024 - s) *ℤ p) (pos s *ℤ q), nat_abs_mul (pos (1024 - s)) p, nat_abs_mul (pos s) q))
    (le_trans (shares-most (1024 - s) 0 s (nat_abs p) 0 (nat_abs q) M a (omega arith) b) (le_of_eq (ap (λ (n : ℕ). n * M) e))))

-- ---- toward two
beyond : (X Y Z a b c : ℤ) → (X ⊕ Y ⊕ Z) ⊗ c ⊕ X ⊗ (a ⊖ c) ⊕ Y ⊗ (b ⊖ c) ≡ X ⊗ a ⊕ Y ⊗ b ⊕ Z ⊗ c
beyond X Y Z a b c = simp subs (sym (is-sub _ _ _ (simp ring)))

pub among-again : (x y : ℕ) (p q r : ℤ) → x + y ≤ 1024 → between x p r +ℤ pos y *ℤ (q -ℤ p) ≡ among x y p q r
unfolding among ◌⊕◌ ◌⊗◌ ◌⊖◌
among-again x y p q r h =
    let e : 1024 ≡ x + y + (1024 - x - y) = omega arith in
    let z : pos 1024 ≡ pos x ⊕ pos y ⊕ pos (1024 - x - y) = ap pos e ∙ pos-add (x + y) (1024 - x - y) ∙ ap (λ n. n ⊕ pos (1024 - x - y)) (pos-add x y) in
    ap (λ n. n +ℤ pos y *ℤ (q -ℤ p)) (sym (between-again x p r))
    ∙ ap (λ n. n *ℤ p +ℤ pos x *ℤ (r -ℤ p) +ℤ pos y *ℤ (q -ℤ p)) z ∙ beyond (pos x) (pos y) (pos (1024 - x - y)) r q p

pub among-most : (x y : ℕ) (p q r : ℤ) (M : ℕ) → x + y ≤ 1024 → nat_abs p ≤ M → nat_abs q ≤ M → nat_abs r ≤ M → nat_abs (among x y p q r) ≤ 1024 * M
unfolding among
among-most x y p q r M h a b c = mixed-most x y (1024 - x - y) r q p M (omega arith) c b a

-- the size of a share of a difference
pub part-most : (x L A C B : ℕ) → x ≤ 1024 → L ≤ A + C → A ≤ B → C ≤ B → x * L ≤ 2048 * B
part-most x L A C B h l a c =
    let m : L ≤ 2 * B = omega arith in
    omega (arith, mul-le-mul h m)
