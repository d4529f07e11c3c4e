-- A converted trace that is converted again stays as it is, whatever it was made of: where a request grew beyond 126 bytes the
-- old reading ends at it, and every request before it carries an age. Assumes nothing.
use mathlib.Core.Path.{◌≡◌, refl}
use mathlib.Core.Bool.{Bool, true, false}
use mathlib.Core.List.{List, [], ◌∷◌, ◌++◌, map, append_assoc}
use Prim.Native.Nat.{ℕ, ◌≤◌}
use native.Mathlib.Omega.{arith}
use lib.Dec.{leb}
use lib.ListN.{length}
use borrow.Author.Tests.{leb-true, leb-false}
use Rattle.wire.specs.Start.{record_in, behind}
use Rattle.pairs.specs.Cut.{Pair, starts_pair, pair_in, joined}
use Rattle.pairs.proofs.Cutting.{refuted, whole_pair, Cuts, end, next, cuts, same-cut}
use Rattle.aging.specs.Convert.{former_longest, aged, aged_pair, converted}
use Rattle.aging.proofs.Records.{IsRecord, record_of_lem, front-field, pair-next, aged-record, aged-again}

-- bytes of which the old reading takes pairs that the converter leaves as they are
record Settled (bytes : List ℕ) : Type 0 where
  pairs : List Pair
  left : List ℕ
  cut_is : Cuts former_longest bytes pairs left
  same : joined (map aged_pair pairs) ++ left ≡ bytes

settled-none : {bytes : List ℕ} → starts_pair former_longest bytes ≡ false → Settled bytes
unfolding joined
settled-none e = record { pairs = []; left = _; cut_is = end e; same = refl }

-- a pair more in front
module _ {q p y : List ℕ} (r : IsRecord former_longest q) (t : IsRecord former_longest p) (stays : aged q ≡ q) where
  settled-more : Settled y → Settled (q ++ (p ++ y))
  unfolding joined aged_pair
  settled-more s = record {
    pairs = record { request = q; reply = p } ∷ s.pairs;
    left = s.left;
    cut_is = pair-next r t y s.cut_is;
    same = simp append_assoc (rw (s.same, stays));
  }

-- a request that is too long in front
too_long : {most : ℕ} {q : List ℕ} (y : List ℕ) → IsRecord most q → (length q ≤ former_longest → ⊥) → starts_pair former_longest (q ++ y) ≡ false
too_long {most} {q} y r long = refuted (λ e. long (rw (front-field r y) at (whole_pair former_longest (q ++ y) e).0.bound))

-- the first pair of a converted trace: the old reading takes it, or its request grew and the old reading ends there
pair-settled : (bytes y : List ℕ) → starts_pair former_longest bytes ≡ true → Settled y
    → Settled (aged (record_in bytes) ++ (record_in (behind bytes) ++ y))
pair-settled bytes y e further = by (leb (length q) former_longest) refl
  where
    q : List ℕ
    q = aged (record_in bytes)

    old : IsRecord former_longest (record_in bytes)
    old = record_of_lem former_longest bytes (whole_pair former_longest bytes e).0

    by : (t : Bool) → leb (length q) former_longest ≡ t → Settled (q ++ (record_in (behind bytes) ++ y))
    by true l =
        let new : IsRecord former_longest q =
        record { least = (aged-record old).least; bound = leb-true _ _ l; field = (aged-record old).field } in
        let reply = record_of_lem former_longest (behind bytes) (whole_pair former_longest bytes e).1 in
        settled-more new reply (aged-again (record_in bytes) old.least) further
    by false l = settled-none (too_long (record_in (behind bytes) ++ y) (aged-record old) (λ m. omega (arith, leb-false (length q) former_longest l)))

settles : {bytes left : List ℕ} {pairs : List Pair} → Cuts former_longest bytes pairs left → Settled (joined (map aged_pair pairs) ++ left)
unfolding joined aged_pair pair_in
settles (end e) = settled-none e
settles (next {bytes} e c) = simp append_assoc (pair-settled bytes _ e (settles c))

stays : {bytes : List ℕ} → Settled bytes → converted bytes ≡ bytes
unfolding converted
stays {bytes} s = let w = same-cut (cuts former_longest bytes) s.cut_is in rw (w.0, w.1) s.same

all_settled : (bytes : List ℕ) → Settled (converted bytes)
unfolding converted
all_settled bytes = settles (cuts former_longest bytes)

pub again : (bytes : List ℕ) → converted (converted bytes) ≡ converted bytes
again bytes = stays (all_settled bytes)
