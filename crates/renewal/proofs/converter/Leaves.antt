-- What the functions need that put a record, a pair and a turn out: sizes, and the bytes of a request with its age. Assumes nothing.
use mathlib.Core.Path.{◌≡◌, refl, sym, ◌∙◌}
use mathlib.Core.Bool.{true, false, false≢true}
use mathlib.Core.List.{List, [], ◌∷◌, ◌++◌}
use Prim.Native.Nat.{ℕ, ◌+◌, ◌-◌, ◌/◌, ◌%◌, ◌≤◌, ◌<◌}
use native.Mathlib.Omega.{arith}
use lib.ListN.{length, take, drop, get_or, set, length-append, length-drop, length-take}
use lib.Seq.{take_all}
use borrow.Author.Tests.{lt-ltb, le-ltb, eq-eqb, ne_eqb}
use Rattle.wire.specs.Start.{shortest, record_in, behind}
use Rattle.pairs.specs.Cut.{starts_pair, pair_in}
use Rattle.pairs.proofs.Cutting.{whole_pair}
use Rattle.feed.specs.Feed.{capped, held_room, feed_in}
use Rattle.feed.specs.declared.Handed.{Handed}
use Rattle.spell.specs.Decimal.{Written, Told}
use Rattle.spell.proofs.Writing.{written_none, written-within, told}
use Rattle.aging.specs.Convert.{former_longest, ageless, aged, aged_pair, changes}
use Rattle.renewal.specs.converter.Put.{counts, aged_bytes, last_out, turn_out}
use Rattle.aging.proofs.Records.{IsRecord, record_of_lem, Request, other, without, request-is}

-- ---- bytes at the front of a buffer

-- at most so many as there is room for
pub told-few : {room most : ℕ} {bytes out out' : List ℕ} {count : ℕ} → room ≤ length out → most ≤ room → Written most out 0 bytes out' count
    → Told room bytes out count out'
told-few {room} {most} {bytes} {out} {out'} {count} enough few w = told room bytes out out' count enough (written-within most out 0 bytes out' count w room few)

-- none
pub no_bytes : (room : ℕ) (bytes out : List ℕ) → room ≤ length out → bytes ≡ [] → Told room bytes out 0 out
no_bytes room bytes out enough none = rw none (told-few enough (omega arith) (written_none 0 out 0 [] out 0))

-- ---- a request with its age

abbrev pub head_of : ℕ → List ℕ → List ℕ
head_of size q = size % 256 ∷ size / 256 ∷ 2 ∷ 0 ∷ get_or q 4 0 ∷ get_or q 5 0 ∷ get_or q 6 0 ∷ get_or q 7 0 ∷ 0 ∷ 0 ∷ []

head-of : {q : List ℕ} → Request q → ageless q ≡ true → aged q ≡ head_of (length q + 2) q ++ drop 8 q
head-of (other plain e) k = absurd (false≢true (sym plain ∙ k))
head-of {q} (without {e = e} {f} {g} {h} {s} kind is) k =
    let n : length q + 2 ≡ 10 + length s = omega arith in
    is ∙ rw n

pub aged-head : (q : List ℕ) → shortest ≤ length q → ageless q ≡ true → aged q ≡ head_of (length q + 2) q ++ drop 8 q
aged-head q l k = head-of (request-is q l) k

pub aged-size : (q : List ℕ) → shortest ≤ length q → ageless q ≡ true → length (aged q) ≡ 10 + length (drop 8 q)
aged-size q l k = rw (aged-head q l k) (length-append (head_of (length q + 2) q) (drop 8 q))

pub aged-written : (q : List ℕ) → shortest ≤ length q → ageless q ≡ true → (size : ℕ) → size ≡ length q + 2 → {l n : List ℕ} {i k : ℕ}
    → Written (10 + length (take (length q - 8) (drop 8 q))) l i (head_of size q ++ take (length q - 8) (drop 8 q)) n k
    → Written (length (aged q)) l i (aged q) n k
aged-written q m e size is w =
    let all : take (length q - 8) (drop 8 q) ≡ drop 8 q = take_all (length q - 8) (drop 8 q) (rw length-drop (omega arith)) in
    rw (aged-size q m e, aged-head q m e) (rw (all, is) at w)

-- one byte
pub byte-written : (l : List ℕ) (i b : ℕ) → Written 1 l i (b ∷ []) (set l i b) (i + 1)
byte-written l i b = record { ends = omega arith; holds = refl; small = omega arith }

pub aged-not : (q : List ℕ) → ageless q ≡ false → aged q ≡ q
unfolding aged
aged-not q e = rw e

-- ---- a pair

pub pair-request : (pair : List ℕ) → starts_pair former_longest pair ≡ true → IsRecord former_longest (record_in pair)
pair-request pair e = record_of_lem former_longest pair (whole_pair former_longest pair e).0

pub bytes-are : (pair : List ℕ) → aged_bytes pair ≡ aged (record_in pair) ++ record_in (behind pair)
unfolding aged_bytes aged_pair pair_in
bytes-are pair = refl

pub bytes-size : (pair : List ℕ) → length (aged_bytes pair) ≡ length (aged (record_in pair)) + length (record_in (behind pair))
bytes-size pair = rw (bytes-are pair) (length-append (aged (record_in pair)) (record_in (behind pair)))

-- its two records one after the other, the request with its age, or as it is
pub pair-written : (pair : List ℕ) {l n : List ℕ} {i k : ℕ} {q p : List ℕ} → q ≡ record_in pair → p ≡ record_in (behind pair)
    → Written (length (aged q) + length p) l i (aged q ++ p) n k → Written (length (aged_bytes pair)) l i (aged_bytes pair) n k
pair-written pair e f w = rw (bytes-size pair, bytes-are pair, ← e, ← f) w

pub pair-kept : (pair : List ℕ) {l n : List ℕ} {i k : ℕ} {q p : List ℕ} → ageless q ≡ false → q ≡ record_in pair
    → p ≡ record_in (behind pair) → Written (length q + length p) l i (q ++ p) n k
    → Written (length (aged_bytes pair)) l i (aged_bytes pair) n k
pair-kept pair {q = q} plain e f w = pair-written pair e f (rw (aged-not q plain) w)

-- ---- a turn

module _ (held : List ℕ) (r : Handed) (before b : ℕ) where
  pub turn-pair : (r.size ≡ 0 → ⊥) → turn_out held r before b ≡ aged_bytes (take r.size held)
  unfolding turn_out
  turn-pair n = rw (ne_eqb r.size 0 n)

  pub turn-ended : r.size ≡ 0 → held_room ≤ before → turn_out held r before b ≡ b ∷ []
  unfolding turn_out
  turn-ended z l = rw (eq-eqb r.size 0 z, le-ltb before held_room l)

  pub turn-full : r.size ≡ 0 → before < held_room → r.rest ≡ held_room → turn_out held r before b ≡ held
  unfolding turn_out
  turn-full z l e = rw (eq-eqb r.size 0 z, lt-ltb before held_room l, eq-eqb r.rest held_room e)

  pub turn-none : r.size ≡ 0 → before < held_room → (r.rest ≡ held_room → ⊥) → turn_out held r before b ≡ []
  unfolding turn_out
  turn-none z l n = rw (eq-eqb r.size 0 z, lt-ltb before held_room l, ne_eqb r.rest held_room n)

-- one request more that is changed
pub counts_some : (n : ℕ) (pair : List ℕ) → ageless (record_in pair) ≡ true → counts n (pair_in pair) ≡ capped (n + 1)
unfolding counts changes pair_in
counts_some n pair e = rw e

pub counts-none : (n : ℕ) (pair : List ℕ) → ageless (record_in pair) ≡ false → counts n (pair_in pair) ≡ n
unfolding counts changes pair_in
counts-none n pair e = rw e

-- ---- at the end

module _ (held : List ℕ) (rest changed : ℕ) where
  pub last_none : held_room ≤ rest → last_out (feed_in held rest changed) ≡ []
  unfolding last_out
  last_none l = rw (le-ltb rest held_room l)

  last_some : rest < held_room → last_out (feed_in held rest changed) ≡ take rest held
  unfolding last_out
  last_some l = rw (lt-ltb rest held_room l)

  pub few-kept : {kept : List ℕ} → rest < held_room → kept ≡ take rest held → length kept ≤ held_room
  few-kept l e = rw (e, length-take) (omega arith)

  pub last-put : {kept out out' : List ℕ} {count : ℕ} → rest < held_room → held_room ≤ length out → kept ≡ take rest held
      → Written (length kept) out 0 kept out' count → Told held_room (last_out (feed_in held rest changed)) out count out'
  last-put l enough e w = rw (last_some l, ← e) (told-few enough (few-kept l e) w)
