-- "Replaying a converted trace must give the five lines that the old trace gave under the old rule, provided the old reading
-- did not end at a record length of 127 or 128": over any two doors, where the one answers a request of which the converter
-- made one with an age as the other answers the request itself. Assumes nothing.
use mathlib.Core.Path.{◌≡◌, refl, sym, ap}
use mathlib.Core.Bool.{Bool, true, false, not, ◌&&◌, ◌||◌, false≢true}
use mathlib.Core.List.{List, [], ◌∷◌, ◌++◌, map, append_assoc}
use Prim.Native.Nat.{ℕ, suc, ◌≤◌}
use native.Mathlib.Omega.{arith}
use lib.Dec.{leb}
use lib.ListN.{length}
use borrow.Author.Tests.{le-leb, leb-false}
use Rattle.wire.specs.Start.{length_field, starts_record, record_in, behind}
use Rattle.pairs.specs.Cut.{longest_record, Pair, starts_pair, pair_in, cut, joined}
use Rattle.pairs.proofs.Cutting.{refuted, not-both-ways, WholeRecord, starts, whole_pair, starts-pair}
use Rattle.pairs.proofs.Cutting.{at-least-two, Cuts, end, next, cuts, same-cut, left-starts-none}
use Rattle.feed.specs.Feed.{how_many}
use Rattle.fives.specs.Replay.{same_bytes, agrees, differs, first_from, five}
use Rattle.aging.specs.Convert.{former_longest, aged, aged_pair, converted, starts_long, ends_long, refuses}
use Rattle.aging.proofs.Records.{IsRecord, record_of_lem, longer, pair-next, aged-record}

-- ---- the cut of the converted trace

pub converted-cuts : {bytes left : List ℕ} {pairs : List Pair} → Cuts former_longest bytes pairs left
    → starts_pair longest_record left ≡ false
    → Cuts longest_record (joined (map aged_pair pairs) ++ left) (map aged_pair pairs) left
unfolding joined aged_pair pair_in
converted-cuts (end e) f = end f
converted-cuts {left = left} (next {bytes} {pairs} e c) f =
    let w = whole_pair former_longest bytes e in
    let q = aged-record (record_of_lem former_longest bytes w.0) in
    let p = longer (record_of_lem former_longest (behind bytes) w.1) in
    simp append_assoc (pair-next q p (joined (map aged_pair pairs) ++ left) (converted-cuts c f))

-- ---- the numbers

-- a test of the converted pairs that is that of the old ones
data Alike (test test' : Pair → Bool) : List Pair → Type 0 where
  none : Alike test test' []
  more : {p : Pair} {pairs : List Pair} → test' (aged_pair p) ≡ test p → Alike test test' pairs → Alike test test' (p ∷ pairs)

alike-many : {test test' : Pair → Bool} {pairs : List Pair} → Alike test test' pairs
    → how_many test' (map aged_pair pairs) ≡ how_many test pairs
unfolding how_many
alike-many none = refl
alike-many (more e s) = rw (e, alike-many s)

alike-first : {test test' : Pair → Bool} {pairs : List Pair} (k : ℕ) → Alike test test' pairs
    → first_from k test' (map aged_pair pairs) ≡ first_from k test pairs
unfolding first_from
alike-first k none = refl
alike-first k (more e s) = rw (e, alike-first (suc k) s)

as_many : (pairs : List Pair) → length (map aged_pair pairs) ≡ length pairs
as_many [] = refl
as_many (p ∷ pairs) = ap suc (as_many pairs)

-- ---- where the old reading ends

neither : (a b : Bool) → (a || b) ≡ false → (a ≡ false) × (b ≡ false)
neither true b e = absurd (false≢true (sym e))
neither false b e = (refl, e)

short : (bytes : List ℕ) → starts_long bytes ≡ false → WholeRecord longest_record bytes → WholeRecord former_longest bytes
unfolding starts_long
short bytes e w = record { least = w.least; bound = by (leb 127 (length_field bytes)) refl; there = w.there }
  where
    by : (t : Bool) → leb 127 (length_field bytes) ≡ t → length_field bytes ≤ former_longest
    by true f = absurd (not-both-ways (rw (le-leb 2 (length bytes) (at-least-two w), f, le-leb _ _ w.bound)) e)
    by false f = omega (arith, leb-false 127 (length_field bytes) f)

ended : (left : List ℕ) → starts_pair former_longest left ≡ false → ends_long left ≡ false → starts_pair longest_record left ≡ false
unfolding ends_long
ended left e f = refuted no-pair
  where
    no-pair : starts_pair longest_record left ≡ true → ⊥
    no-pair g =
        let w = whole_pair longest_record left g in
        let n = neither (starts_long left) (starts_record former_longest left && starts_long (behind left)) f in
        let a = short left n.0 w.0 in
        let b = short (behind left) (rw (starts former_longest left a) at n.1) w.1 in
        not-both-ways (starts-pair former_longest left a b) e

-- ---- the theorem

module _ (before today : List ℕ → List ℕ)
    (alike : (q : List ℕ) → IsRecord former_longest q → today (aged q) ≡ before q) where
  agree-alike : (q p : List ℕ) → IsRecord former_longest q
      → agrees today (aged_pair (record { request = q; reply = p })) ≡ agrees before (record { request = q; reply = p })
  unfolding agrees aged_pair
  agree-alike q p r = ap (λ (l : List ℕ). same_bytes l p) (alike q r)

  agree-all : {bytes left : List ℕ} {pairs : List Pair} → Cuts former_longest bytes pairs left
      → Alike (agrees before) (agrees today) pairs
  unfolding pair_in
  agree-all (end e) = none
  agree-all (next {bytes} e c) = more
      (agree-alike (record_in bytes) (record_in (behind bytes)) (record_of_lem former_longest bytes (whole_pair former_longest bytes e).0))
      (agree-all c)

  differ-all : {pairs : List Pair} → Alike (agrees before) (agrees today) pairs → Alike (differs before) (differs today) pairs
  unfolding differs
  differ-all none = none
  differ-all (more e s) = more (ap not e) (differ-all s)

  pub same-five : (bytes : List ℕ) → refuses bytes ≡ false
      → five longest_record today (converted bytes) ≡ five former_longest before bytes
  unfolding five converted refuses
  same-five bytes f =
      let c = cuts former_longest bytes in
      let left = (cut former_longest bytes).left in
      let new = converted-cuts c (ended left (left-starts-none former_longest bytes) f) in
      let w = same-cut (cuts longest_record (joined (map aged_pair (cut former_longest bytes).pairs) ++ left)) new in
      let s = agree-all c in
      let d = differ-all s in
      rw (w.0, w.1, as_many (cut former_longest bytes).pairs, alike-many s, alike-many d, alike-first 1 d)
