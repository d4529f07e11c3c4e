-- Laws of carries by hand, which docs/landings/06.md and 14.md name: two limbs as two words, moved up so that all parts are cut off downward, and twice a size
-- over 1024^r by one shift of 64 bits. The code takes numbers of 128 bits now and cites neither. Assumes nothing.
use Rattle.std.proofs.Common.{◌≡◌, ℕ, zero, suc, ◌+◌, ◌-◌, ◌*◌, ◌/◌, ◌%◌, ◌^◌, ◌<◌, ℤ, pos, ◌+ℤ◌, neg_ℤ, sym, refl, ap, ◌∙◌, arith}
use lib.IntN.{ -ℤ-+ℤ_cancel}
use Rattle.whole.proofs.Ring.{◌⊕◌, ◌⊗◌, ring}
use Rattle.limbs.specs.Limbs.{two_limbs}
use Rattle.two_words.specs.Words.{two_words, IsWords, Doublable}
use Rattle.two_words.proofs.Only.{cancel}

-- A = 2^64, B = 2^32, K = 2^30, M = 2^62: what both limbs were moved up by is taken off again
moved : (A B K M h x high low : ℤ) → A ⊗ K ≡ B ⊗ M → A ⊗ (h ⊕ K) ⊕ x ⊕ M ≡ B ⊗ (high ⊕ M) ⊕ (low ⊕ M) → A ⊗ h ⊕ x ≡ B ⊗ high ⊕ low
moved A B K M h x high low c e = cancel _ _ (A ⊗ K ⊕ M) (before ∙ e ∙ after ∙ ap (λ z. B ⊗ high ⊕ low ⊕ (z ⊕ M)) (sym c))
  where
    before : A ⊗ h ⊕ x ⊕ (A ⊗ K ⊕ M) ≡ A ⊗ (h ⊕ K) ⊕ x ⊕ M
    before = simp ring

    after : B ⊗ (high ⊕ M) ⊕ (low ⊕ M) ≡ B ⊗ high ⊕ low ⊕ (B ⊗ M ⊕ M)
    after = simp ring

natural : (H L u : ℕ) → u + 2 ^ 30 ≡ H + L / 2 ^ 32 → 2 ^ 64 * (u / 2 ^ 32) + (u % 2 ^ 32 * 2 ^ 32 + L % 2 ^ 32) + 2 ^ 62 ≡ 2 ^ 32 * H + L
natural H L u e = omega arith

-- the limbs high and low, moved up to H and L; u is H with what L carries
pub limbs-words : (high low h : ℤ) (H L u : ℕ) → pos H ≡ high +ℤ pos (2 ^ 62) → pos L ≡ low +ℤ pos (2 ^ 62) → u + 2 ^ 30 ≡ H + L / 2 ^ 32
    → h ≡ pos (u / 2 ^ 32) +ℤ neg_ℤ (pos (2 ^ 30)) → IsWords (two_limbs high low) h (u % 2 ^ 32 * 2 ^ 32 + L % 2 ^ 32)
unfolding two_words two_limbs ◌⊕◌ ◌⊗◌
limbs-words high low h H L u a b c d = record {
  worth = moved (pos (2 ^ 64)) (pos (2 ^ 32)) (pos (2 ^ 30)) (pos (2 ^ 62)) h (pos (u % 2 ^ 32 * 2 ^ 32 + L % 2 ^ 32)) high low refl
      (rw (d, -ℤ-+ℤ_cancel (pos (u / 2 ^ 32)) (pos (2 ^ 30)), ← a, ← b) (ap pos (natural H L u c)));
  below = omega arith;
}

-- ---- twice a size over 1024^r, by one shift
abbrev twice : ℕ → ℕ → ℕ → ℕ
twice high low r = 2 * (2 ^ 64 * high + low) / 1024 ^ r

pub double-some : (high low r : ℕ) → Doublable high low r → 0 < r
    → (high * 33554432 < 2 ^ 36) × (high * 33554432 + low / 2 ^ (10 * r - 1) ≡ twice high low r)
double-some high low zero h p = absurd (omega arith)
double-some high low (suc zero) h p = let m : 2 ^ 64 * high + low < 2 ^ 44 = h.most in (omega arith, omega arith)
double-some high low (suc (suc zero)) h p = let m : 2 ^ 64 * high + low < 2 ^ 54 = h.most in (omega arith, omega arith)
double-some high low (suc (suc (suc zero))) h p = let m : 2 ^ 64 * high + low < 2 ^ 64 = h.most in (omega arith, omega arith)
double-some high low (suc (suc (suc (suc zero)))) h p =
    let m : 2 ^ 64 * high + low < 2 ^ 74 = h.most in
    let l = h.below in
    (omega arith, omega arith)
double-some high low (suc (suc (suc (suc (suc r))))) h p = absurd (let f = h.few in omega arith)
