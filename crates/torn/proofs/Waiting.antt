-- Laws of a pair that is cut off: where none is, bytes that come behind make none whole; and it is within two records. Assumes
-- nothing.
use mathlib.Core.Path.{◌≡◌, refl, sym}
use mathlib.Core.Bool.{Bool, true, false, ◌&&◌, ◌||◌, false≢true}
use mathlib.Core.List.{List, ◌++◌}
use Prim.Native.Nat.{ℕ, ◌+◌, ◌≤◌, ◌<◌}
use native.Mathlib.Omega.{arith}
use lib.Dec.{ltb}
use lib.ListN.{length}
use borrow.Author.Tests.{ltb-true, ltb-false}
use Rattle.wire.specs.Start.{shortest, is_length, length_field, starts_record, behind}
use Rattle.pairs.specs.Cut.{starts_pair}
use Rattle.pairs.proofs.Cutting.{both, not-both-ways, refuted, is-length, length-is, WholeRecord, whole, starts}
use Rattle.pairs.proofs.Cutting.{at-least-two, field-more, behind_more, behind-size}
use Rattle.torn.specs.Window.{cut_off, waits}

pub neither : (a b : Bool) → (a || b) ≡ false → (a ≡ false) × (b ≡ false)
neither true b e = absurd (false≢true (sym e))
neither false b e = (refl, e)

not-second : {a b : Bool} → a ≡ true → (a && b) ≡ false → b ≡ false
not-second {a = true} e f = f
not-second {a = false} e f = absurd (false≢true e)

and-false : (a : Bool) {b : Bool} → b ≡ false → (a && b) ≡ false
and-false true e = e
and-false false e = refl

module _ (most : ℕ) (w : List ℕ) where
  -- what is not cut off has a length, and is whole where that is one
  pub not-cut : cut_off most w ≡ false → (2 ≤ length w) × (is_length most (length_field w) ≡ true → length_field w ≤ length w)
  unfolding cut_off
  not-cut c =
      let parts = neither (ltb (length w) 2) (is_length most (length_field w) && ltb (length w) (length_field w)) c in
      (ltb-false _ _ parts.0, λ is. ltb-false _ _ (not-second is parts.1))

  -- so where none is cut off and none is whole, none will be
  no-record-more : (x : List ℕ) → cut_off most w ≡ false → starts_record most w ≡ false → starts_record most (w ++ x) ≡ false
  no-record-more x c n = refuted (λ e. not-both-ways (starts most w (here (whole most (w ++ x) e))) n)
    where
      here : WholeRecord most (w ++ x) → WholeRecord most w
      here v =
          let f : length_field (w ++ x) ≡ length_field w = field-more w x (not-cut c).0 in
          let least : shortest ≤ length_field w = omega (arith, v.least) in
          let bound : length_field w ≤ most = omega (arith, v.bound) in
          record { least = least; bound = bound; there = (not-cut c).1 (length-is most (length_field w) least bound) }

  -- one that is cut off is shorter than a record, or has no length yet
  cut_small : 2 ≤ most → cut_off most w ≡ true → length w < most
  unfolding cut_off
  cut_small two e = by (ltb (length w) 2) refl
    where
      by : (t : Bool) → ltb (length w) 2 ≡ t → length w < most
      by true l = omega (arith, ltb-true (length w) 2 l)
      by false l =
          let v = both (is_length most (length_field w)) (ltb (length w) (length_field w)) (rw l at e) in
          omega (arith, ltb-true (length w) (length_field w) v.1, (is-length most (length_field w) v.0).1)

module _ (most : ℕ) (w : List ℕ) where
  pub none-will-start : (x : List ℕ) → starts_pair most w ≡ false → waits most w ≡ false → starts_pair most (w ++ x) ≡ false
  unfolding waits starts_pair
  none-will-start x n q = by (starts_record most w) refl
    where
      parts : (cut_off most w ≡ false) × ((starts_record most w && cut_off most (behind w)) ≡ false)
      parts = neither (cut_off most w) (starts_record most w && cut_off most (behind w)) q

      by : (t : Bool) → starts_record most w ≡ t → (starts_record most (w ++ x) && starts_record most (behind (w ++ x))) ≡ false
      by false e = rw (no-record-more most w x parts.0 e)
      by true e =
          let v = whole most w e in
          and-false (starts_record most (w ++ x)) (rw (behind_more w x (at-least-two v) v.there)
          (no-record-more most (behind w) x (not-second e parts.1) (not-second e n)))

  -- a pair that is cut off is within two records
  pub waits-small : 2 ≤ most → waits most w ≡ true → length w < most + most
  unfolding waits
  waits-small enough e = by (cut_off most w) refl
    where
      by : (t : Bool) → cut_off most w ≡ t → length w < most + most
      by true c = omega (arith, cut_small most w enough c)
      by false c =
          let v = both (starts_record most w) (cut_off most (behind w)) (rw c at e) in
          omega (arith, (whole most w v.0).bound, cut_small most (behind w) enough v.1, behind-size w)
