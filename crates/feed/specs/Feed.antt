-- Any fold of the pairs of a trace, and the feed that gathers it a byte at a time. What a byte does is defined for every
-- feed, also for one that no reading makes. That a feed gathers the fold is in proofs/Reading.antt. Assumes nothing.
use Rattle.std.specs.Prelude.{◌≡◌, Bool, cond, ◌&&◌, List, [], ◌∷◌, ◌++◌, ℕ, suc, ◌+◌, ◌-◌, ◌<◌, ltb, leb, eqb, length, take, drop, set, replicate}
pub use Rattle.capped.specs.Capped.{capped}
use Rattle.pairs.specs.Cut.{Pair, starts_pair, pair_in, pair_size, cut}
use Rattle.feed.specs.declared.Turn.{Turn}
use Rattle.feed.specs.declared.Handed.{Handed}

-- ---- of the whole trace

unfoldable pub folded : {A : Type 0} → (A → Pair → A) → A → List Pair → A
folded add a [] = a
folded add a (pair ∷ pairs) = folded add (add a pair) pairs

-- how many pairs there are of which the test is true
unfoldable pub how_many : (Pair → Bool) → List Pair → ℕ
how_many test [] = 0
how_many test (pair ∷ pairs) = cond (test pair) (suc (how_many test pairs)) (how_many test pairs)

-- ---- a byte at a time

-- the bytes from the start of the pair that is not whole yet, as many as are kept; how many there are; and what the pairs
-- before them gave
pub record Feed (A : Type 0) : Type 0 where
  pub kept : List ℕ
  pub rest : ℕ
  pub gathered : A

-- as many as two records of at most 128 bytes can be
abbrev pub held_room : ℕ
held_room = 256

-- nothing was fed
unfoldable pub blank : {A : Type 0} → A → Feed A
blank a = record { kept = []; rest = 0; gathered = a }

-- a byte more: where it makes a pair whole, that pair is gathered and the next one begins
unfoldable pub stepped : {A : Type 0} → ℕ → (A → Pair → A) → Feed A → ℕ → Feed A
stepped most add s b =
    let left = s.kept ++ b ∷ [] in
    cond (ltb s.rest held_room && starts_pair most left)
    (blank (add s.gathered (pair_in left)))
    (record { kept = take held_room left; rest = capped (s.rest + 1); gathered = s.gathered })

-- what was gathered and what is left of a whole trace
unfoldable pub feed_of : {A : Type 0} → ℕ → (A → Pair → A) → A → List ℕ → Feed A
feed_of most add none bytes =
    record {
      kept = take held_room (cut most bytes).left;
      rest = capped (length (cut most bytes).left);
      gathered = folded add none (cut most bytes).pairs;
    }

-- ---- the same in an array

abbrev pub zeros : ℕ → List ℕ
zeros n = replicate n 0

-- the bytes that are kept, and zeros behind them
unfoldable pub held_of : List ℕ → List ℕ
held_of kept = kept ++ zeros (held_room - length kept)

-- an array whose first places hold the bytes that are kept
abbrev pub feed_in : {A : Type 0} → List ℕ → ℕ → A → Feed A
feed_in held rest gathered = record { kept = take rest held; rest = rest; gathered = gathered }

-- what a byte does to the array, the number and whether a pair is whole
pub record Puts (most : ℕ) (held : List ℕ) (rest b : ℕ) (held' : List ℕ) (turn : Turn) : Type 0 where
  pub held_is : held' ≡ set held rest b
  pub rest_is : turn.rest ≡ capped (rest + 1)
  pub whole_is : turn.whole ≡ (ltb rest (length held) && starts_pair most (take (rest + 1) (set held rest b)))

-- how many bytes of a part are a whole pair that can be handed on at once; 0 where there is none, or one has begun, or it is
-- more than is kept
unfoldable pub ahead : ℕ → ℕ → List ℕ → ℕ
ahead most rest part = cond (eqb rest 0 && leb (pair_size most part) held_room) (pair_size most part) 0

-- what a turn leaves: the array, and what is handed on
pub record Left : Type 0 where
  pub held : List ℕ
  pub handed : Handed

-- a turn: the whole pair that lies ahead, or one byte, which makes the pair in the array whole or does not
unfoldable pub after_byte : ℕ → List ℕ → ℕ → ℕ → Left
after_byte most held rest b =
    let whole = ltb rest (length held) && starts_pair most (take (rest + 1) (set held rest b)) in
    record {
      held = set held rest b;
      handed = record { rest = cond whole 0 (capped (rest + 1)); size = cond whole (capped (rest + 1)) 0; bytes = 1 };
    }

unfoldable pub after_pair : List ℕ → List ℕ → ℕ → Left
after_pair held part n =
    record { held = take n part ++ drop n held; handed = record { rest = 0; size = n; bytes = n } }

unfoldable pub after_turn : ℕ → List ℕ → ℕ → List ℕ → Left
after_turn most held rest [] = record { held = held; handed = record { rest = rest; size = 0; bytes = 0 } }
after_turn most held rest (b ∷ part) =
    let n = ahead most rest (b ∷ part) in
    cond (eqb n 0) (after_byte most held rest b) (after_pair held (b ∷ part) n)

pub record Leaves (is : Left) (held' : List ℕ) (r : Handed) : Type 0 where
  pub held_is : held' ≡ is.held
  pub handed_is : r ≡ is.handed

-- the array of a reader has the room for what is kept
pub record Hands (most : ℕ) (held : List ℕ) (rest : ℕ) (part held' : List ℕ) (r : Handed) : Type 0 where
  pub leaves : Leaves (after_turn most held rest part) held' r
  pub long : 0 < length part → length held ≡ held_room

-- what a fold has when a turn handed on a pair of so many bytes, at the front of the array; 0: none
unfoldable pub given : {A : Type 0} → (A → Pair → A) → A → List ℕ → ℕ → A
given add a held size = cond (eqb size 0) a (add a (pair_in (take size held)))
