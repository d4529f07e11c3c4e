-- Sums in two limbs. Place s of an array has its high limb at 2s and its low one at 2s + 1, both signed. Assumes nothing.
use Rattle.std.specs.Prelude.{◌≡◌, List, ℕ, zero, suc, ◌+◌, ◌*◌, ◌^◌, ◌≤◌, ℤ, pos, nat_abs, ◌+ℤ◌, ◌*ℤ◌, length, get_or}

-- what two limbs are worth
unfoldable pub two_limbs : ℤ → ℤ → ℤ
two_limbs high low = pos (2 ^ 32) *ℤ high +ℤ low

-- what place s is worth
unfoldable pub worth : List ℤ → ℕ → ℤ
worth l s = two_limbs (get_or l (2 * s) (pos 0)) (get_or l (2 * s + 1) (pos 0))

-- room for values of weight w more, wherever they go: the one budget of all places
pub record Room (l : List ℤ) (w : ℕ) : Type 0 where
  pub room : (k : ℕ) → nat_abs (get_or l k (pos 0)) + w * 2 ^ 32 ≤ 2 ^ 56

-- x at s, and 0 elsewhere
unfoldable pub only : ℕ → ℤ → ℕ → ℤ
only zero x zero = x
only zero x (suc t) = pos 0
only (suc s) x zero = pos 0
only (suc s) x (suc t) = only s x t

-- each place gains what f says, by values of weight w in all
pub record Gained (l m : List ℤ) (f : ℕ → ℤ) (w : ℕ) : Type 0 where
  pub long : length m ≡ length l
  pub worths : (t : ℕ) → worth m t ≡ worth l t +ℤ f t
  pub left : (rest : ℕ) → Room l (w + rest) → Room m rest
