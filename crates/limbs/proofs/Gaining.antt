-- What places of two limbs gain by one weighed value, and what they are worth when all is summed from nothing.
-- Assumes nothing.
use mathlib.Core.Path.{◌≡◌, refl, sym, ◌∙◌, ap}
use mathlib.Core.List.{List}
use Prim.Native.Nat.{ℕ, zero, suc, ◌+◌, ◌*◌, ◌-◌, ◌/◌, ◌^◌, ◌≤◌, ◌<◌}
use native.Mathlib.Nat.{mul-le-mul_left}
use native.Mathlib.Decide.{ℕ_discrete}
use native.Mathlib.Omega.{arith}
use lib.IntN.{ℤ, pos, negsuc, neg_ℤ, nat_abs, ◌+ℤ◌, ◌*ℤ◌, +ℤ_idl, +ℤ_idr}
use lib.Signed.{shr_z}
use lib.ListN.{length, get_or, set, replicate, length-set}
use lib.Seq.{get_or-set_same, get_or-set_other}
use Rattle.whole.proofs.Ring.{◌⊕◌, ◌⊗◌, ⊝◌, ring, subs, is-sub}
use Rattle.whole.proofs.Bound.{nat_abs-add, nat_abs_mul}
use Rattle.whole.proofs.Rounding.{distance}
use Rattle.whole.proofs.Fill.{zeros}
use Rattle.limbs.specs.Limbs.{two_limbs, worth, Room, only, Gained}

-- ---- a value split at 2^32: whatever is taken as the high limb, the low one makes up for it
limbs-is : (a b : ℤ) → two_limbs a b ≡ pos (2 ^ 32) ⊗ a ⊕ b
unfolding two_limbs ◌⊕◌ ◌⊗◌
limbs-is a b = refl

pub split : (n h : ℤ) → two_limbs h (n +ℤ h *ℤ neg_ℤ (pos (2 ^ 32))) ≡ n
unfolding ◌⊕◌ ◌⊗◌ ⊝◌
split n h = limbs-is h (n +ℤ h *ℤ neg_ℤ (pos (2 ^ 32))) ∙ made_up (pos (2 ^ 32)) h n
  where
    made_up : (B h n : ℤ) → B ⊗ h ⊕ (n ⊕ h ⊗ ⊝ B) ≡ n
    made_up B h n = simp subs (sym (is-sub n (h ⊗ B) _ (simp ring)))

-- rounded down, neither limb is large
pub split-high : (n : ℤ) → nat_abs n ≤ 2 ^ 52 → nat_abs (shr_z n (2 ^ 32)) ≤ 2 ^ 24
split-high (pos a) h = omega arith
split-high (negsuc a) h = omega arith

pub split-low : (n : ℤ) → nat_abs (n +ℤ shr_z n (2 ^ 32) *ℤ neg_ℤ (pos (2 ^ 32))) ≤ 2 ^ 32
split-low (pos a) = omega (arith, distance a (a / 2 ^ 32 * 2 ^ 32))
split-low (negsuc a) = omega (arith, distance (suc (a / 2 ^ 32) * 2 ^ 32) (suc a))

-- ---- one place
pub only_same : (s : ℕ) (x : ℤ) → only s x s ≡ x
unfolding only
only_same zero x = refl
only_same (suc s) x = only_same s x

pub only-other : (s t : ℕ) (x : ℤ) → (t ≡ s → ⊥) → only s x t ≡ pos 0
unfolding only
only-other zero zero x h = absurd (h refl)
only-other zero (suc t) x h = refl
only-other (suc s) zero x h = refl
only-other (suc s) (suc t) x h = only-other s t x (λ e. h (ap suc e))

-- a limb with room for a weighed number
pub limb-room : (l : List ℤ) (k w : ℕ) (x : ℤ) → nat_abs x ≤ 2 ^ 32 → Room l w → nat_abs (get_or l k (pos 0)) + w * nat_abs x ≤ 2 ^ 56
limb-room l k w x h r = omega (arith, r.room k, mul-le-mul_left w h)

-- ---- a weighed value, in two parts
module _ (l : List ℤ) (s w : ℕ) (q r : ℤ) (h : 2 * s + 1 < length l) where
  abbrev first : List ℤ
  first = set l (2 * s) (get_or l (2 * s) (pos 0) +ℤ pos w *ℤ q)

  abbrev both : List ℤ
  both = set first (2 * s + 1) (get_or first (2 * s + 1) (pos 0) +ℤ pos w *ℤ r)

  pub still : get_or first (2 * s + 1) (pos 0) ≡ get_or l (2 * s + 1) (pos 0)
  still = get_or-set_other l (2 * s) (2 * s + 1) _ (pos 0) (λ e. omega arith)

  high : get_or both (2 * s) (pos 0) ≡ get_or l (2 * s) (pos 0) +ℤ pos w *ℤ q
  high = get_or-set_other first (2 * s + 1) (2 * s) _ (pos 0) (λ e. omega arith) ∙ get_or-set_same l (2 * s) _ (pos 0) (omega arith)

  low : get_or both (2 * s + 1) (pos 0) ≡ get_or l (2 * s + 1) (pos 0) +ℤ pos w *ℤ r
  low =
      get_or-set_same first (2 * s + 1) _ (pos 0) (rw length-set h)
      ∙ ap (λ x. x +ℤ pos w *ℤ r) still

  other : (k : ℕ) → (k ≡ 2 * s → ⊥) → (k ≡ 2 * s + 1 → ⊥) → get_or both k (pos 0) ≡ get_or l k (pos 0)
  other k a b = get_or-set_other first (2 * s + 1) k _ (pos 0) b ∙ get_or-set_other l (2 * s) k _ (pos 0) a

  long : length both ≡ length l
  long = simp length-set

  -- the place is worth the weighed value more
  apart : (a b : ℤ) → two_limbs (a ⊕ pos w ⊗ q) (b ⊕ pos w ⊗ r) ≡ two_limbs a b ⊕ pos w ⊗ two_limbs q r
  apart a b = rw (limbs-is, limbs-is, limbs-is) (simp ring)

  worths : (t : ℕ) → worth both t ≡ worth l t +ℤ only s (pos w *ℤ two_limbs q r) t
  unfolding worth ◌⊕◌ ◌⊗◌
  worths t = go (ℕ_discrete t s)
    where
      go : Dec (t ≡ s) → worth both t ≡ worth l t +ℤ only s (pos w *ℤ two_limbs q r) t
      go (yes e) = rw (e, high, low, only_same) (apart (get_or l (2 * s) (pos 0)) (get_or l (2 * s + 1) (pos 0)))
      go (no f) = rw (
        other (2 * t) (λ e. f (omega arith)) (λ e. omega arith),
        other (2 * t + 1) (λ e. omega arith) (λ e. f (omega arith)),
        only-other
            s t (pos w *ℤ two_limbs q r) f,
        +ℤ_idr,
      )

  left : nat_abs q ≤ 2 ^ 32 → nat_abs r ≤ 2 ^ 32 → (rest : ℕ) → Room l (w + rest) → Room both rest
  left a b rest room = record { room = λ k. go k (ℕ_discrete k (2 * s)) (ℕ_discrete k (2 * s + 1)) }
    where
      more : (k : ℕ) (x : ℤ) → nat_abs x ≤ 2 ^ 32 → nat_abs (get_or l k (pos 0) +ℤ pos w *ℤ x) + rest * 2 ^ 32 ≤ 2 ^ 56
      more k x h = omega (arith, room.room k, nat_abs-add (get_or l k (pos 0)) (pos w *ℤ x), nat_abs_mul (pos w) x, mul-le-mul_left w h)

      go : (k : ℕ) → Dec (k ≡ 2 * s) → Dec (k ≡ 2 * s + 1) → nat_abs (get_or both k (pos 0)) + rest * 2 ^ 32 ≤ 2 ^ 56
      go k (yes e) d = rw (e, high) (more (2 * s) q a)
      go k (no f) (yes e) = rw (e, low) (more (2 * s + 1) r b)
      go k (no f) (no g) = rw (other k f g) (omega (arith, room.room k))

  pub gains : (v : ℤ) → two_limbs q r ≡ v → nat_abs q ≤ 2 ^ 32 → nat_abs r ≤ 2 ^ 32 → Gained l both (only s (pos w *ℤ v)) w
  gains v e a b = record { long = long; worths = λ t. rw (← e) (worths t); left = left a b }

-- ---- from nothing
pub zeros-room : (n : ℕ) → Room (replicate n (pos 0)) (2 ^ 24)
zeros-room n = record { room = λ k. rw (zeros n k) (omega arith) }

pub zeros-worth : (n t : ℕ) → worth (replicate n (pos 0)) t ≡ pos 0
unfolding worth two_limbs
zeros-worth n t = rw (zeros n (2 * t), zeros n (2 * t + 1))

-- less room
pub room-less : (l : List ℤ) (a b : ℕ) → b ≤ a → Room l a → Room l b
room-less l a b h r = record { room = λ k. omega (arith, r.room k) }

-- when all is summed, from nothing and within the budget: each place is worth its sum, and every limb is far below 2^63
pub summed : (n : ℕ) (m : List ℤ) (f : ℕ → ℤ) (w : ℕ) → w ≤ 2 ^ 24 → Gained (replicate n (pos 0)) m f w
    → ((t : ℕ) → worth m t ≡ f t) × ((k : ℕ) → nat_abs (get_or m k (pos 0)) ≤ 2 ^ 56)
summed n m f w h g = (λ t. g.worths t ∙ rw (zeros-worth n t) (+ℤ_idl (f t)), λ k. omega (arith, all.room k))
  where
    all : Room m (2 ^ 24 - w)
    all = g.left (2 ^ 24 - w) (room-less _ (2 ^ 24) (w + (2 ^ 24 - w)) (omega arith) (zeros-room n))
