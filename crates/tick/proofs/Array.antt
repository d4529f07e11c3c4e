-- The array of a reading under way: points that are loaded into it, and one step made in place, from the front. Assumes
-- nothing.
use mathlib.Core.Path.{◌≡◌, sym, ap, ap₂, ◌∙◌}
use mathlib.Core.List.{List, [], ◌∷◌, map}
use Prim.Native.Nat.{ℕ, zero, suc, ◌+◌, ◌-◌, ◌≤◌, ◌<◌}
use native.Mathlib.Omega.{arith}
use lib.IntN.{ℤ, pos, negsuc, nat_abs}
use lib.ListN.{length, get_or, set, take, length-set, length-map, replicate}
use lib.Seq.{length-take-le, get_or-take, ext_get_or}
use mir.Syntax.{w64}
use mir.Val.{SFits, to_z, of_z}
use mir.Facts.{to_z-of_z}
use borrow.Author.Count.{below_none}
use Rattle.whole.proofs.Fill.{fill_more, fill-rest, zeros}
use Rattle.tick.specs.Reading.{most_points, carried, between, lower, after}
use Rattle.tick.specs.Carried.{carried_most, Carried}
use Rattle.tick.proofs.Steps.{lower-length, lower-at, after-zero, after-suc, carried-at}

-- a carried value is what its bits are read as
small : (z : ℤ) → nat_abs z ≤ carried_most → SFits w64 z
small (pos n) m = record { sfits = omega arith }
small (negsuc n) m = record { sfits = omega arith }

pub same : (z : ℤ) → nat_abs z ≤ carried_most → to_z w64 (of_z w64 z) ≡ z
same z m = to_z-of_z (small z m)

-- one value more leaves every value carried
stored : (l : List ℤ) (i : ℕ) (x : ℤ) → ((j : ℕ) → nat_abs (get_or l j (pos 0)) ≤ carried_most) → nat_abs x ≤ carried_most
    → (j : ℕ) → nat_abs (get_or (set l i x) j (pos 0)) ≤ carried_most
stored [] i x each m j = each j
stored (a ∷ l) zero x each m zero = m
stored (a ∷ l) zero x each m (suc j) = each (suc j)
stored (a ∷ l) (suc i) x each m zero = each zero
stored (a ∷ l) (suc i) x each m (suc j) = stored l i x (λ j. each (suc j)) m j

store : (l : List ℤ) (i : ℕ) (x : ℤ) → Carried l → nat_abs x ≤ carried_most → Carried (set l i x)
store l i x c m = record { long = length-set l i x ∙ c.long; each = stored l i x c.each m }

pub no-values : Carried (replicate most_points (pos 0))
no-values = record { long = omega arith; each = λ i. rw (zeros most_points i) (omega arith) }

-- ---- the points loaded
-- the first i of them are
pub record Loading (points now : List ℤ) (i : ℕ) : Type 0 where
  pub fine : Carried now
  pub front : (j : ℕ) → j < i → get_or now j (pos 0) ≡ carried (get_or points j (pos 0))

module _ (points : List ℤ) where
  pub none-loaded : (now : List ℤ) → Carried now → Loading points now 0
  none-loaded now c = record { fine = c; front = below_none _ }

  pub one-loaded : (now : List ℤ) (i : ℕ) (x : ℤ) → i < most_points → Loading points now i → x ≡ carried (get_or points i (pos 0)) → nat_abs x ≤ carried_most
      → Loading points (set now i x) (i + 1)
  one-loaded now i x h l is m =
      let long = l.fine.long in
      record { fine = store now i x l.fine m; front = fill_more now i x (λ j. carried (get_or points j (pos 0))) (omega arith) l.front is }

  pub all-loaded : (now : List ℤ) (i : ℕ) → i ≡ length points → length points ≤ most_points → Loading points now i
      → take (length points) now ≡ map carried points
  all-loaded now i e h l =
      let long = l.fine.long in
      let same : length (take (length points) now) ≡ length points = length-take-le (length points) now (omega arith) in
      ext_get_or (pos 0) _ _ (same ∙ sym (length-map points carried))
      (λ j m. let n : j < length points = omega arith in get_or-take (length points) now j (pos 0) n ∙ l.front j (omega arith) ∙ sym (carried-at points j))

-- ---- one step
-- the first i places hold what the step gives, the others what they held
pub record Lowering (k : ℕ) (before now : List ℤ) (i : ℕ) : Type 0 where
  pub fine : Carried now
  pub front : (j : ℕ) → j < i → get_or now j (pos 0) ≡ between k (get_or before j (pos 0)) (get_or before (suc j) (pos 0))
  pub back : (j : ℕ) → i ≤ j → get_or now j (pos 0) ≡ get_or before j (pos 0)

module _ (k : ℕ) (before : List ℤ) where
  pub none-lowered : Carried before → Lowering k before before 0
  none-lowered c = record { fine = c; front = below_none _; back = λ j h. λ t. get_or before j (pos 0) }

  pub one-lowered : (now : List ℤ) (i : ℕ) (a b x : ℤ) → i < most_points → Lowering k before now i → a ≡ get_or now i (pos 0) → b ≡ get_or now (i + 1) (pos 0)
      → x ≡ between k a b → nat_abs x ≤ carried_most → Lowering k before (set now i x) (i + 1)
  one-lowered now i a b x h l first second is m =
      let long = l.fine.long in
      let one : i + 1 ≡ suc i = omega arith in
      let p : a ≡ get_or before i (pos 0) = first ∙ l.back i (omega arith) in
      let q : b ≡ get_or before (suc i) (pos 0) = second ∙ l.back (i + 1) (omega arith) ∙ ap (λ (n : ℕ). get_or before n (pos 0)) one in
      record {
        fine = store now i x l.fine m;
        front = fill_more now i x (λ j. between k (get_or before j (pos 0)) (get_or before (suc j) (pos 0))) (omega arith) l.front (is ∙ ap₂ (between k) p q);
        back = fill-rest now i x (λ j. get_or before j (pos 0)) l.back;
      }

  pub all-lowered : (now : List ℤ) (count : ℕ) → count < most_points → Carried before → Lowering k before now count
      → take count now ≡ lower k (take (count + 1) before)
  all-lowered now count h c l =
      let long = l.fine.long in
      let began = c.long in
      let short : length (take count now) ≡ count = length-take-le count now (omega arith) in
      let kept : length (take (count + 1) before) ≡ count + 1 = length-take-le (count + 1) before (omega arith) in
      let less = lower-length k (take (count + 1) before) in
      ext_get_or (pos 0) _ _ (omega arith)
      (λ j m.
      let n : j < count = omega arith in
      get_or-take count now j (pos 0) n ∙ l.front j n
      ∙ sym (lower-at k (take (count + 1) before) j (omega arith)
      ∙ ap₂ (between k) (get_or-take (count + 1) before j (pos 0) (omega arith)) (get_or-take (count + 1) before (suc j) (pos 0) (omega arith))))

-- ---- what is left to read, from one step to the next, and at the end
pub after-step : (k count : ℕ) (before now : List ℤ) → 0 < count → take count now ≡ lower k (take (count + 1) before)
    → after (count - 1) k (take count now) ≡ after count k (take (count + 1) before)
after-step k zero before now h e = absurd (omega arith)
after-step k (suc n) before now h e =
    let one : suc n - 1 ≡ n = omega arith in
    rw one (ap (after n k) e ∙ sym (after-suc n k (take (suc n + 1) before)))

pub after_last : (k : ℕ) (now : List ℤ) → after 0 k (take 1 now) ≡ get_or now 0 (pos 0)
after_last k now = after-zero k (take 1 now) ∙ get_or-take 1 now 0 (pos 0) (omega arith)
