-- Laws of the array that holds a pair that is not whole yet: what a byte does to it, and zeros behind what is kept.
-- Assumes nothing.
use mathlib.Core.Path.{◌≡◌, refl, sym, ◌∙◌}
use mathlib.Core.Bool.{Bool, true, false, not}
use mathlib.Core.List.{List, [], ◌∷◌, ◌++◌, append_assoc, append-nil}
use Prim.Native.Nat.{ℕ, suc, ◌+◌, ◌-◌, ◌≤◌, ◌<◌, min}
use native.Mathlib.Numerals.{add-one}
use native.Mathlib.Omega.{arith}
use lib.Dec.{leb, eqb}
use lib.ListN.{length, take, drop, get_or, set, length-append, length-replicate, length-take, drop_of_length-le, take-append-drop}
use lib.ListN.{replicate-append-replicate}
use lib.Seq.{length-take-le, drop-cons, set_at, take_all, set_out}
use borrow.Author.Tests.{le-ltb, lt-ltb, le-leb, lt-leb, leb-true, leb-false, eq-eqb, ne_eqb}
use Rattle.pairs.specs.Cut.{pair_size}
use Rattle.pairs.proofs.Leaves.{starts_is}
use Rattle.feed.specs.declared.Turn.{Turn}
use Rattle.feed.specs.declared.Handed.{Handed}
use Rattle.feed.specs.Feed.{capped, held_room, zeros, held_of, ahead, Puts, after_byte, after_pair, after_turn, Leaves}

-- what lies ahead: nothing where a pair has begun, or where it is more than is kept
module _ (most rest : ℕ) (part : List ℕ) where
  pub ahead-begun : (rest ≡ 0 → ⊥) → 0 ≡ ahead most rest part
  unfolding ahead
  ahead-begun p = rw (ne_eqb rest 0 p)

  pub ahead-long : rest ≡ 0 → held_room < pair_size most part → 0 ≡ ahead most rest part
  unfolding ahead
  ahead-long z l = rw (eq-eqb rest 0 z, lt-leb (pair_size most part) held_room l)

  pub ahead-first : rest ≡ 0 → pair_size most part ≤ held_room → pair_size most part ≡ ahead most rest part
  unfolding ahead
  ahead-first z l = rw (eq-eqb rest 0 z, le-leb (pair_size most part) held_room l)

-- a byte that the array has no place for, and one that it has
module _ (most : ℕ) (held : List ℕ) (rest b r : ℕ) (more : r ≡ capped (rest + 1)) where
  pub put-out : length held ≤ rest → Puts most held rest b held (record { rest = r; whole = false })
  put-out l = record { held_is = sym (set_out held rest b l); rest_is = more; whole_is = rw (le-ltb rest (length held) l) }

  pub put_in : (n : ℕ) (held' : List ℕ) → rest < length held → held' ≡ set held rest b → n ≡ pair_size most (take (rest + 1) held')
      → Puts most held rest b held' (record { rest = r; whole = not (eqb n 0) })
  put_in n held' l at is = record {
    held_is = at;
    rest_is = more;
    whole_is = rw (lt-ltb rest (length held) l, ← at, is) (starts_is most _);
  }

-- the same byte as a turn
module _ {most : ℕ} {held : List ℕ} {rest b : ℕ} {held' : List ℕ} {turn : Turn} (p : Puts most held rest b held' turn) where
  pub byte-whole : turn.whole ≡ true
      → Leaves (after_byte most held rest b) held' (record { rest = 0; size = turn.rest; bytes = 1 })
  unfolding after_byte
  byte-whole e = record { held_is = p.held_is; handed_is = rw (sym p.whole_is ∙ e, p.rest_is) }

  pub byte-on : turn.whole ≡ false
      → Leaves (after_byte most held rest b) held' (record { rest = turn.rest; size = 0; bytes = 1 })
  unfolding after_byte
  byte-on e = record { held_is = p.held_is; handed_is = rw (sym p.whole_is ∙ e, p.rest_is) }

-- a turn over an empty part, over one byte, and over the pair that lies ahead
module _ (most : ℕ) (held : List ℕ) (rest : ℕ) where
  pub turn-none : (part : List ℕ) → length part ≡ 0
      → Leaves (after_turn most held rest part) held (record { rest = rest; size = 0; bytes = 0 })
  unfolding after_turn
  turn-none [] e = record { held_is = refl; handed_is = refl }
  turn-none (b ∷ part) e = absurd (omega arith)

  pub turn_byte : (part : List ℕ) {held' : List ℕ} {r : Handed} → 0 < length part → ahead most rest part ≡ 0
      → Leaves (after_byte most held rest (get_or part 0 0)) held' r → Leaves (after_turn most held rest part) held' r
  unfolding after_turn
  turn_byte [] some z l = absurd (omega arith)
  turn_byte (b ∷ part) some z l = rw (eq-eqb (ahead most rest (b ∷ part)) 0 z) l

  pub turn-pair : (part : List ℕ) {held' : List ℕ} {r : Handed} → 0 < length part → (ahead most rest part ≡ 0 → ⊥)
      → Leaves (after_pair held part (ahead most rest part)) held' r → Leaves (after_turn most held rest part) held' r
  unfolding after_turn
  turn-pair [] some other l = absurd (omega arith)
  turn-pair (b ∷ part) some other l = rw (ne_eqb (ahead most rest (b ∷ part)) 0 other) l

-- the pair that lies ahead is copied to the front
pub pair-copied : (held part bytes : List ℕ) (n m : ℕ) → n ≡ m → bytes ≡ take n part
    → Leaves (after_pair held part m) (bytes ++ drop n held) (record { rest = 0; size = n; bytes = n })
unfolding after_pair
pair-copied held part bytes n m e copied = record { held_is = rw (copied, ← e); handed_is = rw (← e) }

-- a loop that clears: the front, the zeros so far, and what still stands
unfoldable pub cleared : List ℕ → ℕ → ℕ → List ℕ
cleared l from i = take from l ++ (zeros (i - from) ++ drop i l)

module _ (l : List ℕ) (from : ℕ) where
  pub clear-start : l ≡ cleared l from from
  unfolding cleared
  clear-start = let z : from - from ≡ 0 = omega arith in rw z (sym (take-append-drop from l))

  pub clear_next : (i : ℕ) → from ≤ i → i < length l → set (cleared l from i) i 0 ≡ cleared l from (i + 1)
  unfolding cleared
  clear_next i f m =
      let front = take from l ++ zeros (i - from) in
      let size : length front ≡ i = rw (length-append, length-take-le from l (omega arith), length-replicate) (omega arith) in
      let stood : cleared l from i ≡ front ++ get_or l i 0 ∷ drop (suc i) l = rw (drop-cons l i 0 m, append_assoc) in
      let more : zeros (i + 1 - from) ≡ zeros (i - from) ++ 0 ∷ [] = one_more (i + 1 - from) (i - from) (omega arith) in
      rw (stood, set_at front (get_or l i 0) (drop (suc i) l) 0 i size, more, add-one) (simp append_assoc)
    where
      one_more : (n m : ℕ) → n ≡ m + 1 → zeros n ≡ zeros m ++ 0 ∷ []
      one_more n m e = rw e (sym (replicate-append-replicate m 1 0))

-- zeros from the end of what is kept on
pub settled : (held : List ℕ) (rest m i : ℕ) → length held ≡ held_room → m ≡ min held_room rest → i ≡ held_room
    → cleared held m i ≡ held_of (take rest held)
unfolding cleared held_of
settled held rest m i room is end =
    let kept : take m held ≡ take rest held = by (leb held_room rest) refl in
    let none : drop i held ≡ [] = drop_of_length-le held (omega arith) in
    let size : i - m ≡ held_room - length (take rest held) = simp length-take (omega arith) in
    rw (kept, none, append-nil, size)
  where
    by : (t : Bool) → leb held_room rest ≡ t → take m held ≡ take rest held
    by true l =
        let past : held_room ≤ rest = leb-true held_room rest l in
        take_all m held (omega arith) ∙ sym (take_all rest held (omega arith))
    by false l = let at : m ≡ rest = omega (arith, leb-false held_room rest l) in rw at
