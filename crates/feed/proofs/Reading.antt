-- The feed that takes a byte at a time gathers the fold of the pairs of what it took: over any fold, for records of at most
-- 128 bytes, as an equation. A pair that lies whole in a part may be gathered at once. Assumes nothing.
use mathlib.Core.Path.{◌≡◌, refl, sym, ap, ◌∙◌}
use mathlib.Core.Bool.{Bool, true, false, cond, ◌&&◌}
use mathlib.Core.List.{List, [], ◌∷◌, ◌++◌, append-nil, append_assoc}
use Prim.Native.Nat.{ℕ, suc, ◌+◌, ◌-◌, ◌≤◌, ◌<◌, min}
use native.Mathlib.Nat.{zero-add}
use native.Mathlib.Numerals.{add-one}
use native.Mathlib.Omega.{arith}
use lib.Dec.{ltb, leb, eqb}
use lib.ListN.{length, take, drop, get_or, set, length-append, length-take, length-drop, length-set}
use lib.Seq.{length-take-le, take-suc, take-suc-set, take_all, take_at, take-append-le, set_out}
use borrow.Author.Tests.{lt-ltb, le-ltb, ltb-true, ltb-false, leb-true, leb-false, eqb-true, eqb-false, eq-eqb, ne_eqb}
use Rattle.wire.specs.Start.{behind}
use Rattle.feed.specs.declared.Turn.{Turn}
use Rattle.pairs.specs.Cut.{Pair, starts_pair, pair_in, pair_size, cut_in, cut}
use Rattle.feed.specs.Parts.{fed}
use Rattle.feed.specs.declared.Handed.{Handed}
use Rattle.feed.specs.Feed.{capped, folded, how_many, held_room, Feed, blank, stepped, feed_of, zeros, held_of, feed_in, Puts, ahead}
use Rattle.feed.specs.Feed.{Leaves, Hands, after_byte, after_pair, after_turn, given}
use Rattle.pairs.proofs.Cutting.{both, not-both-ways, left-starts-none, cut-more, cut-none, cut-one, just-whole}
use Rattle.pairs.proofs.Cutting.{none-so-long, Alone, front-pair}
use Rattle.feed.proofs.Parts.{Moves, Passed, more-passed}

-- ---- the fold

folded_more : {A : Type 0} (add : A → Pair → A) (a : A) (pairs : List Pair) (p : Pair)
    → folded add a (pairs ++ p ∷ []) ≡ add (folded add a pairs) p
unfolding folded
folded_more add a [] p = refl
folded_more add a (q ∷ pairs) p = folded_more add (add a q) pairs p

-- a fold that is a function of the pairs
module _ {A : Type 0} (add : A → Pair → A) (f : List Pair → A)
    (more : (ps : List Pair) (p : Pair) → add (f ps) p ≡ f (ps ++ p ∷ [])) where
  folded_on : (qs ps : List Pair) → folded add (f qs) ps ≡ f (qs ++ ps)
  unfolding folded
  folded_on qs [] = rw append-nil
  folded_on qs (p ∷ ps) = rw (more qs p) (folded_on (qs ++ p ∷ []) ps ∙ ap f (append_assoc qs (p ∷ []) ps))

  pub folded-is : (ps : List Pair) → folded add (f []) ps ≡ f ps
  folded-is ps = folded_on [] ps

pub how-many-more : (test : Pair → Bool) (pairs : List Pair) (p : Pair)
    → how_many test (pairs ++ p ∷ []) ≡ how_many test pairs + cond (test p) 1 0
unfolding how_many
how-many-more test [] p = sym (zero-add (cond (test p) 1 0))
how-many-more test (q ∷ pairs) p = by (test q) _ _ _ (how-many-more test pairs p)
  where
    by : (t : Bool) (m n k : ℕ) → m ≡ n + k → cond t (suc m) m ≡ cond t (suc n) n + k
    by true m n k e = omega arith
    by false m n k e = e

-- ---- a byte more

module _ {A : Type 0} (most : ℕ) (add : A → Pair → A) (s : Feed A) (b : ℕ) where
  pub step-whole : s.rest < held_room → starts_pair most (s.kept ++ b ∷ []) ≡ true
      → stepped most add s b ≡ blank (add s.gathered (pair_in (s.kept ++ b ∷ [])))
  unfolding stepped
  step-whole l e = rw (lt-ltb _ _ l, e)

  pub step-on : (ltb s.rest held_room && starts_pair most (s.kept ++ b ∷ [])) ≡ false
      → stepped most add s b ≡ record {
        kept = take held_room (s.kept ++ b ∷ []);
        rest = capped (s.rest + 1);
        gathered = s.gathered;
      }
  unfolding stepped
  step-on e = rw e

and-false : (a b : Bool) → b ≡ false → (a && b) ≡ false
and-false true b e = e
and-false false b e = refl

module _ {A : Type 0} (most : ℕ) (small : most ≤ 128) (add : A → Pair → A) (none : A) where
  pub step_of : (bytes : List ℕ) (b : ℕ) → stepped most add (feed_of most add none bytes) b
      ≡ feed_of most add none (bytes ++ b ∷ [])
  unfolding feed_of blank
  step_of bytes b = by (starts_pair most (left ++ b ∷ [])) refl (ltb (length left) held_room) refl
    where
      left : List ℕ
      left = (cut most bytes).left

      more : ((cut most (bytes ++ b ∷ [])).pairs ≡ (cut most bytes).pairs ++ (cut most (left ++ b ∷ [])).pairs)
          × ((cut most (bytes ++ b ∷ [])).left ≡ (cut most (left ++ b ∷ [])).left)
      more = cut-more most bytes (b ∷ [])

      all-kept : length left < held_room → take held_room left ≡ left
      all-kept l = take_all held_room left (omega arith)

      -- where not all is kept, the byte is not either
      front : (t : Bool) → ltb (length left) held_room ≡ t
          → take held_room (take held_room left ++ b ∷ []) ≡ take held_room (left ++ b ∷ [])
      front true l = rw (all-kept (ltb-true (length left) held_room l))
      front false l =
          let big : held_room ≤ length left = ltb-false (length left) held_room l in
          take-append-le held_room (take held_room left) (b ∷ []) (simp length-take (omega arith))
          ∙ take_all held_room (take held_room left) (simp length-take (omega arith))
          ∙ sym (take-append-le held_room left (b ∷ []) big)

      -- no pair is whole
      on : (t : Bool) → ltb (length left) held_room ≡ t → starts_pair most (left ++ b ∷ []) ≡ false
          → (ltb (capped (length left)) held_room && starts_pair most (take held_room left ++ b ∷ [])) ≡ false
          → stepped most add (feed_of most add none bytes) b ≡ feed_of most add none (bytes ++ b ∷ [])
      on t l none_yet test =
          let cuts = cut-none most (left ++ b ∷ []) none_yet in
          let size : capped (capped (length left) + 1) ≡ capped (length (left ++ b ∷ [])) = rw length-append (omega arith) in
          step-on most add (feed_of most add none bytes) b test
          ∙ rw (more.0, more.1, cuts.0, cuts.1, append-nil, front t l, size)

      by : (t : Bool) → starts_pair most (left ++ b ∷ []) ≡ t → (u : Bool) → ltb (length left) held_room ≡ u
          → stepped most add (feed_of most add none bytes) b ≡ feed_of most add none (bytes ++ b ∷ [])
      by true e true l =
          let room : length left < held_room = ltb-true (length left) held_room l in
          let one = cut-one most (left ++ b ∷ []) e (just-whole most left b (left-starts-none most bytes) e) in
          step-whole most add (feed_of most add none bytes) b (omega arith) (rw (all-kept room) e)
          ∙ rw (all-kept room, more.0, more.1, one.0, one.1, folded_more)
      by true e false l = absurd
          (not-both-ways e (none-so-long most left b (omega (arith, ltb-false (length left) held_room l))
          (left-starts-none most bytes)))
      by false e true l = on true l e (and-false (ltb (capped (length left)) held_room)
          (starts_pair most (take held_room left ++ b ∷ [])) (rw (all-kept (ltb-true (length left) held_room l)) e))
      by false e false l =
          on false l e (rw (le-ltb (capped (length left)) held_room (omega (arith, ltb-false (length left) held_room l))))

  fed-of : (bytes part : List ℕ) → fed (stepped most add) (feed_of most add none bytes) part ≡ feed_of most add none (bytes ++ part)
  unfolding fed
  fed-of bytes [] = rw append-nil
  fed-of bytes (b ∷ part) = rw (step_of bytes b) (fed-of (bytes ++ b ∷ []) part
      ∙ ap (feed_of most add none) (append_assoc bytes (b ∷ []) part))

  pub nothing_read : feed_of most add none [] ≡ blank none
  unfolding feed_of blank cut cut_in folded
  nothing_read = refl

  -- the whole at once
  pub took : (bytes : List ℕ) → fed (stepped most add) (blank none) bytes ≡ feed_of most add none bytes
  took bytes = rw (← nothing_read) (fed-of [] bytes)

  -- one pair and no more
  pub at_once : (p : List ℕ) → starts_pair most p ≡ true → behind (behind p) ≡ []
      → fed (stepped most add) (blank none) p ≡ blank (add none (pair_in p))
  unfolding feed_of blank folded
  at_once p e all = let one = cut-one most p e all in took p ∙ rw (one.0, one.1)

-- ---- in an array

-- a pair that lies whole at the front of a part, where none has begun
pub record Ahead (most rest : ℕ) (part : List ℕ) (n : ℕ) : Type 0 where
  pub begun : rest ≡ 0
  pub few : n ≤ held_room
  pub alone : Alone most n part

pub lies-ahead : (most rest n : ℕ) (part : List ℕ) → n ≡ ahead most rest part → 0 < n → Ahead most rest part n
unfolding ahead
lies-ahead most rest n part is p = by (eqb rest 0) (leb (pair_size most part) held_room) refl refl
  where
    by : (t u : Bool) → eqb rest 0 ≡ t → leb (pair_size most part) held_room ≡ u → Ahead most rest part n
    by false u e f = let nothing : n ≡ 0 = rw e at is in absurd (omega arith)
    by true false e f = let nothing : n ≡ 0 = rw (e, f) at is in absurd (omega arith)
    by true true e f =
        let size : n ≡ pair_size most part = rw (e, f) at is in
        record {
          begun = eqb-true rest 0 e;
          few = omega (arith, leb-true (pair_size most part) held_room f);
          alone = rw size (front-pair most part (rw size at p));
        }

-- a byte that was put into the array
module _ {most : ℕ} {held : List ℕ} {rest b : ℕ} {held' : List ℕ} {turn : Turn} (room : length held ≡ held_room)
    (p : Puts most held rest b held' turn) where
  whole-at : turn.whole ≡ true → (rest < held_room) × (starts_pair most (take (rest + 1) (set held rest b)) ≡ true)
  whole-at e =
      let w = both (ltb rest (length held)) (starts_pair most (take (rest + 1) (set held rest b))) (sym p.whole_is ∙ e) in
      (omega (arith, ltb-true rest (length held) w.0), w.1)

  -- the byte stands behind those that are kept
  added : rest < held_room → take (rest + 1) (set held rest b) ≡ take rest held ++ b ∷ []
  added l = rw (add-one, take-suc-set held rest b (omega arith))

  -- and all of them are kept
  kept-all : rest < held_room → take held_room (take rest held ++ b ∷ []) ≡ take rest held ++ b ∷ []
  kept-all l = take_all held_room _ (simp (length-append, length-take) (omega arith))

  module _ {A : Type 0} (add : A → Pair → A) (a : A) where
    pub put_whole : turn.whole ≡ true → feed_in held' 0 (add a (pair_in (take turn.rest held')))
        ≡ stepped most add (feed_in held rest a) b
    unfolding blank
    put_whole e =
        let w = whole-at e in
        let next : turn.rest ≡ rest + 1 = omega (arith, p.rest_is, w.0) in
        rw (next, p.held_is, added w.0)
        (sym (step-whole most add (feed_in held rest a) b w.0 (rw (added w.0) at w.1)))

    pub put_on : turn.whole ≡ false → feed_in held' turn.rest a ≡ stepped most add (feed_in held rest a) b
    put_on e = by (ltb rest held_room) refl
      where
        by : (t : Bool) → ltb rest held_room ≡ t → feed_in held' turn.rest a ≡ stepped most add (feed_in held rest a) b
        by true l =
            let inside : rest < held_room = ltb-true rest held_room l in
            let next : capped (rest + 1) ≡ rest + 1 = omega arith in
            let test : (ltb rest (length held) && starts_pair most (take (rest + 1) (set held rest b))) ≡ false =
            sym p.whole_is ∙ e in
            rw (p.rest_is, p.held_is, next, added inside)
            (sym (step-on most add (feed_in held rest a) b (rw (added inside, room) at test) ∙ rw (kept-all inside, next)))
        by false l =
            let out : length held ≤ rest = omega (arith, ltb-false rest held_room l) in
            let full : take rest held ≡ held = take_all rest held out in
            let same : take (capped (rest + 1)) held ≡ held = take_all (capped (rest + 1)) held (omega arith) in
            let front : take held_room (held ++ b ∷ []) ≡ held = take-append-le held_room held (b ∷ []) (omega arith)
            ∙ take_all held_room held (omega arith) in
            rw (p.rest_is, p.held_is, set_out held rest b out, same)
            (sym (step-on most add (feed_in held rest a) b (rw l) ∙ rw (full, front)))

    -- the byte is the first of a part: it makes no pair whole, or one
    module _ (part : List ℕ) (some : 0 < length part) (first : b ≡ get_or part 0 0) where
      front : {s : Feed A} → s ≡ stepped most add (feed_in held rest a) b
          → s ≡ fed (stepped most add) (feed_in held rest a) (take 1 part)
      unfolding fed
      front e = rw (take-suc part 0 0 some) (e ∙ ap (stepped most add (feed_in held rest a)) first)

      moves-on : turn.whole ≡ false → Moves (stepped most add) (feed_in held rest a) part (feed_in held' turn.rest a) 1
      moves-on e = record { some = omega arith; within = omega arith; fed_is = front (put_on e) }

      moves-whole : (a' : A) → turn.whole ≡ true → a' ≡ add a (pair_in (take turn.rest held'))
          → Moves (stepped most add) (feed_in held rest a) part (feed_in held' 0 a') 1
      moves-whole a' e gave = record { some = omega arith; within = omega arith; fed_is = front (rw gave (put_whole e)) }

-- what a fold has when a turn handed on nothing, and when it handed on a pair
module _ {A : Type 0} (add : A → Pair → A) (a : A) (held : List ℕ) (size : ℕ) where
  pub given-none : size ≡ 0 → a ≡ given add a held size
  unfolding given
  given-none e = rw (eq-eqb size 0 e)

  pub given_pair : {b : A} → (size ≡ 0 → ⊥) → b ≡ add a (pair_in (take size held)) → b ≡ given add a held size
  unfolding given
  given_pair some e = rw (ne_eqb size 0 some) e

-- a turn, from an array, feeds what it takes of a part
abbrev pub Turns : {A : Type 0} → ℕ → (A → Pair → A) → A → List ℕ → ℕ → List ℕ → List ℕ → Handed → Type 0
Turns most add a held rest part held' r = Moves (stepped most add) (feed_in held rest a) part
    (feed_in held' r.rest (given add a held' r.size)) r.bytes

module _ {A : Type 0} {most : ℕ} (small : most ≤ 128) (add : A → Pair → A) (held : List ℕ) (rest : ℕ) (a : A) where
  -- one byte
  fed-byte : (b : ℕ) (part : List ℕ) {held' : List ℕ} {r : Handed} → length held ≡ held_room → Leaves (after_byte most held rest b) held' r
      → Turns most add a held rest (b ∷ part) held' r
  unfolding after_byte given
  fed-byte b part {held'} {r} room l = by whole refl
    where
      whole : Bool
      whole = ltb rest (length held) && starts_pair most (take (rest + 1) (set held rest b))

      puts : Puts most held rest b (set held rest b) (record { rest = capped (rest + 1); whole = whole })
      puts = record { held_is = refl; rest_is = refl; whole_is = refl }

      by : (t : Bool) → whole ≡ t → Turns most add a held rest (b ∷ part) held' r
      by true e =
          let size : eqb (capped (rest + 1)) 0 ≡ false = ne_eqb (capped (rest + 1)) 0 (λ (z : capped (rest + 1) ≡ 0). omega arith) in
          rw (l.held_is, l.handed_is, e, size) (moves-whole room puts add a (b ∷ part) (omega arith) refl _ e refl)
      by false e = rw (l.held_is, l.handed_is, e) (moves-on room puts add a (b ∷ part) (omega arith) refl e)

  -- the pair that lies ahead
  fed-pair : (n : ℕ) (part : List ℕ) {held' : List ℕ} {r : Handed} → Ahead most rest part n → 0 < n → length held ≡ held_room
      → Leaves (after_pair held part n) held' r
      → Turns most add a held rest part held' r
  unfolding after_pair given blank
  fed-pair n part {held'} {r} one p room l =
      let front : take n (take n part ++ drop n held) ≡ take n part =
      take_at (take n part) _ n (length-take-le n part one.alone.inside) in
      let some : eqb n 0 ≡ false = ne_eqb n 0 (λ (z : n ≡ 0). omega arith) in
      let once = at_once most small add a (take n part) one.alone.starts one.alone.all in
      rw (l.held_is, l.handed_is, some, front)
      (record { some = p; within = one.alone.inside; fed_is = rw one.begun (sym once) })

  pub turned : (part : List ℕ) {held' : List ℕ} {r : Handed} → 0 < length part → Hands most held rest part held' r
      → Turns most add a held rest part held' r
  unfolding after_turn
  turned [] some h = absurd (omega arith)
  turned (b ∷ part) {held'} {r} some h = by (eqb n 0) refl
    where
      n : ℕ
      n = ahead most rest (b ∷ part)

      by : (t : Bool) → eqb n 0 ≡ t → Turns most add a held rest (b ∷ part) held' r
      by true e = fed-byte b part (h.long some) (rw e at h.leaves)
      by false e =
          let p : 0 < n = omega (arith, eqb-false n 0 e) in
          fed-pair n (b ∷ part) (lies-ahead most rest n (b ∷ part) refl p) p (h.long some) (rw e at h.leaves)

-- what a loop over a part needs of a turn at place i: it goes on, and the bytes before the next place were fed
pub turn-passed : {A : Type 0} {most : ℕ} → most ≤ 128 → (add : A → Pair → A) {s₀ : Feed A} {part : List ℕ} (held : List ℕ) (rest : ℕ)
    (a : A) {i : ℕ} {held' : List ℕ} {r : Handed} → Passed (stepped most add) s₀ part (feed_in held rest a) i → i < length part
    → Hands most held rest (take (length part - i) (drop i part)) held' r
    → (0 < r.bytes)
    × Passed (stepped most add) s₀ part (feed_in held' r.rest (given add a held' r.size)) (i + r.bytes)
turn-passed small add held rest a p l h =
    let m = turned small add held rest a _ (simp (length-take, length-drop) (omega arith)) h in
    (m.some, more-passed p m)

-- a turn leaves the array as long as it was, and the pair that is handed on is in it
module _ {most : ℕ} {held : List ℕ} {rest : ℕ} where
  pub handed-long : (part : List ℕ) {held' : List ℕ} {r : Handed} → 0 < length part → Hands most held rest part held' r
      → (length held' ≡ held_room) × (r.size ≤ length held')
  unfolding after_turn after_byte after_pair
  handed-long [] some h = absurd (omega arith)
  handed-long (b ∷ part) {held'} {r} some h = by (eqb n 0) refl
    where
      n : ℕ
      n = ahead most rest (b ∷ part)

      byte : (t u : Bool) → ltb rest (length held) ≡ t → starts_pair most (take (rest + 1) (set held rest b)) ≡ u
          → Leaves (after_byte most held rest b) held' r → (length held' ≡ held_room) × (r.size ≤ length held')
      byte t u e f l = (rw l.held_is (simp length-set (h.long some)), inside t u e f)
        where
          inside : (t u : Bool) → ltb rest (length held) ≡ t → starts_pair most (take (rest + 1) (set held rest b)) ≡ u
              → r.size ≤ length held'
          inside true true e f = rw (l.held_is, l.handed_is, e, f) (simp length-set (omega (arith, ltb-true rest (length held) e)))
          inside true false e f = rw (l.handed_is, e, f) (omega arith)
          inside false u e f = rw (l.handed_is, e) (omega arith)

      by : (t : Bool) → eqb n 0 ≡ t → (length held' ≡ held_room) × (r.size ≤ length held')
      by true e =
          byte (ltb rest (length held)) (starts_pair most (take (rest + 1) (set held rest b))) refl refl (rw e at h.leaves)
      by false e =
          let l : Leaves (after_pair held (b ∷ part) n) held' r = rw e at h.leaves in
          let one = lies-ahead most rest n (b ∷ part) refl (omega (arith, eqb-false n 0 e)) in
          let size : length held' ≡ n + (held_room - n) =
          rw (l.held_is, length-append, length-take-le n (b ∷ part) one.alone.inside, length-drop, h.long some) in
          (omega (arith, one.few), rw l.handed_is (omega arith))

-- the array with zeros behind what is kept holds the same, and nothing else
pub held_is : (held : List ℕ) (rest : ℕ) → length held ≡ held_room
    → take rest held ++ zeros (length held - rest) ≡ held_of (take rest held)
unfolding held_of
held_is held rest room =
    let n : length held - rest ≡ held_room - length (take rest held) = simp length-take (omega arith) in
    rw n

-- as many bytes are kept as there are, up to the room for them: so it is with what an array of that room holds, and a byte
-- leaves it so
abbrev pub Proper : {A : Type 0} → Feed A → Type 0
Proper s = length s.kept ≡ min s.rest held_room

pub proper-on : (kept : List ℕ) (rest b : ℕ) → length kept ≡ min rest held_room
    → length (take held_room (kept ++ b ∷ [])) ≡ min (capped (rest + 1)) held_room
proper-on kept rest b e = omega (arith, length-take held_room (kept ++ b ∷ []), length-append kept (b ∷ []))

module _ {A : Type 0} (most : ℕ) (add : A → Pair → A) where
  pub proper-step : (s : Feed A) (b : ℕ) → Proper s → Proper (stepped most add s b)
  unfolding stepped blank
  proper-step s b e = by (ltb s.rest held_room && starts_pair most (s.kept ++ b ∷ [])) refl
    where
      by : (t : Bool) → (ltb s.rest held_room && starts_pair most (s.kept ++ b ∷ [])) ≡ t → Proper (stepped most add s b)
      by true q = rw q
      by false q = rw q (proper-on s.kept s.rest b e)

  pub proper-fed : (s : Feed A) (bytes : List ℕ) → Proper s → Proper (fed (stepped most add) s bytes)
  unfolding fed
  proper-fed s [] e = e
  proper-fed s (b ∷ bytes) e = proper-fed (stepped most add s b) bytes (proper-step s b e)

-- the array with zeros behind holds what was kept
kept_again : (room rest : ℕ) (kept : List ℕ) → length kept ≡ min rest room → take rest (kept ++ zeros (room - length kept)) ≡ kept
kept_again room rest kept e = by (leb rest room) refl
  where
    by : (t : Bool) → leb rest room ≡ t → take rest (kept ++ zeros (room - length kept)) ≡ kept
    by true l = take_at kept _ rest (omega (arith, leb-true rest room l))
    by false l =
        let none : room - length kept ≡ 0 = omega (arith, leb-false rest room l) in
        rw (none, append-nil) (take_all rest kept (omega (arith, leb-false rest room l)))

pub held-again : {A : Type 0} (s : Feed A) → Proper s → feed_in (held_of s.kept) s.rest s.gathered ≡ s
unfolding held_of
held-again s e = rw (kept_again held_room s.rest s.kept e)
