-- What the contracts of the card's steps cite. A net of form 1 is held in five f64; where d arguments are left its first d + 1
-- places count. Assumes nothing.
use Rattle.std.specs.Prelude.{◌≡◌, false, cond, List, map, ℕ, zero, suc, ◌+◌, ◌*◌, ◌^◌, ◌≤◌, ◌<◌, ltb, ℤ, pos, nat_abs, length, get_or, Float}
use Rattle.std.specs.Float.{nan}
use Rattle.request.specs.units.Bounds.{beyond_path}
use Rattle.net.specs.Net.{Net}
use Rattle.net.specs.Blossom.{Argument, along_u, blossom}
use Rattle.request.specs.Request.{Request}
use Rattle.request.specs.Cascade.{refused}
use Rattle.floats.specs.Float.{float, bits}
use Rattle.floats.specs.Step.{mixed}
use Rattle.part.specs.declared.Card.{Card}
use Rattle.part.specs.Choice.{choice_of}
use Rattle.part.specs.Contract.{five, Shows}

-- the first d places of `out` are the net one degree lower
pub record Lowered (net : List Float) (d : ℕ) (u : Float) (out : List Float) : Type 0 where
  pub each : (i : ℕ) → i < d → get_or out i nan ≡ mixed (get_or net i nan) (get_or net (i + 1) nan) u

-- the curve whose control values stand in a list
unfoldable pub curve : List ℤ → Net
curve surface i j = get_or surface i (pos 0)

-- the five f64 hold the curve p, and after d more arguments no value is above 2^52
pub record Holds (net : List Float) (p : Net) (d : ℕ) : Type 0 where
  pub each : (i : ℕ) → i ≤ d → get_or net i nan ≡ float (p i 0)
  pub bound : ℕ
  pub most : (i j : ℕ) → nat_abs (p i j) ≤ bound
  pub room : bound * 1024 ^ d ≤ 2 ^ 52

-- the argument at point c of a part from x to y
unfoldable pub between : ℤ → ℤ → ℕ → Argument
between x y zero = along_u x
between x y (suc c) = along_u y

unfoldable pub value_at : ℕ → ℕ → ℤ → ℤ → Net → ℤ
value_at left R x y p = blossom (map (between x y) (choice_of left R)) p

-- u is the path number x
pub record At (u : Float) (x : ℤ) : Type 0 where
  pub is : u ≡ float x
  pub path : beyond_path x ≡ false

-- r is the blossom value of whatever whole numbers the net and the part hold
pub record Blossoms (net : List Float) (left R : ℕ) (u v r : Float) : Type 0 where
  pub exact : (p : Net) (x y : ℤ) → Holds net p left → At u x → At v y → r ≡ float (value_at left R x y p)

-- the first `count` places are blossom values, the others plus zero
pub record Filled (net : List Float) (m count : ℕ) (u v : Float) (out : List Float) : Type 0 where
  pub long : length out ≡ 5
  pub used : (R : ℕ) → R < count → Blossoms net m R u v (get_or out R nan)
  pub unused : (R : ℕ) → count ≤ R → R < 5 → get_or out R nan ≡ float (pos 0)

-- "a refused record is all plus zero", whatever was asked
pub record Refuses (number place : ℕ) (card : Card) : Type 0 where
  pub shows : (rq : Request) → Shows rq (refused number place) card

-- the record of a part from x to y
pub record Answered (m : ℕ) (surface : List ℤ) (count : ℕ) (x y : ℤ) (card : Card) : Type 0 where
  pub number_is : card.number ≡ 0
  pub place_is : card.place ≡ 0
  pub count_is : card.count ≡ count
  pub bits_are : map bits card.numerators ≡ five (λ R. cond (ltb R count) (bits (float (value_at m R x y (curve surface)))) 0)
