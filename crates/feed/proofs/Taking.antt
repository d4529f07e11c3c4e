-- A part adds the pairs that it makes whole, turn by turn: what a loop over it needs; and a state that adds a pair by a function has what the
-- feed over that function gathers. Assumes nothing.
use mathlib.Core.Path.{◌≡◌, refl, sym, ap, ◌∙◌}
use mathlib.Core.Bool.{Bool, true, false, ◌&&◌}
use mathlib.Core.List.{List, [], ◌∷◌, ◌++◌}
use Prim.Native.Nat.{ℕ, ◌-◌, ◌≤◌, ◌<◌}
use native.Mathlib.Omega.{arith}
use lib.Dec.{ltb}
use lib.ListN.{length, take, drop, length-take, length-drop, take-append-drop}
use lib.Seq.{take_all}
use Rattle.std.specs.List.{FoldsTo}
use Rattle.pairs.specs.Cut.{Pair, pair_in, starts_pair, longest_record}
use Rattle.feed.specs.declared.Handed.{Handed}
use Rattle.feed.specs.Feed.{Feed, folded, held_room, blank, stepped, held_of, feed_in, given, Hands}
use Rattle.feed.specs.Parts.{fed}
use Rattle.feed.specs.Takes.{listed, parted, Takes}
use Rattle.feed.proofs.Parts.{Moves, fed-more}
use Rattle.feed.proofs.Reading.{turned, given-none, given_pair, held-again, proper-fed}

-- ---- turn by turn

folds_more : {S A : Type 0} (R : S → A → S → Type 0) (s : S) (xs : List A) {m : S} {x : A} {s' : S} → FoldsTo R s xs m → R m x s'
    → FoldsTo R s (xs ++ x ∷ []) s'
folds_more R s [] {m} {x} {s'} e r = (s', rw e r, refl)
folds_more R s (y ∷ xs) f r = (f.0, f.1, folds_more R f.0 xs f.2 r)

-- what of a part was taken: pairs were added, and what is left feeds on
pub record Going {S : Type 0} (adds : S → Pair → S → Type 0) (held₀ : List ℕ) (rest₀ : ℕ) (s₀ : S) (part held : List ℕ) (rest : ℕ) (s : S) (left : List ℕ)
    : Type 0 where
  pub pairs : List Pair
  pub added : FoldsTo adds s₀ pairs s
  pub on : fed (stepped longest_record listed) (feed_in held rest pairs) left ≡ parted held₀ rest₀ part

module _ {S : Type 0} (adds : S → Pair → S → Type 0) (held₀ : List ℕ) (rest₀ : ℕ) (s₀ : S) (part : List ℕ) where
  pub going-begun : Going adds held₀ rest₀ s₀ part held₀ rest₀ s₀ part
  unfolding parted
  going-begun = record { pairs = []; added = refl; on = refl }

  module _ {held : List ℕ} {rest : ℕ} {s : S} {left : List ℕ} (g : Going adds held₀ rest₀ s₀ part held rest s left) where
    module _ (some : 0 < length left) {held' : List ℕ} {r : Handed} (h : Hands longest_record held rest left held' r) where
      moves : Moves (stepped longest_record listed) (feed_in held rest g.pairs) left
          (feed_in held' r.rest (given listed g.pairs held' r.size)) r.bytes
      moves = turned (omega arith) listed held rest g.pairs left some h

      -- a turn takes a byte at least, and not more than there are
      pub takes_some : (0 < r.bytes) × (r.bytes ≤ length left)
      takes_some = (moves.some, moves.within)

      further : (pairs : List Pair) → given listed g.pairs held' r.size ≡ pairs
          → fed (stepped longest_record listed) (feed_in held' r.rest pairs) (take (length left - r.bytes) (drop r.bytes left))
          ≡ parted held₀ rest₀ part
      further pairs e =
          let rest_of : take (length left - r.bytes) (drop r.bytes left) ≡ drop r.bytes left =
          take_all (length left - r.bytes) (drop r.bytes left) (rw length-drop (omega arith)) in
          rw (rest_of, ← e, moves.fed_is)
          (sym (fed-more (stepped longest_record listed) (feed_in held rest g.pairs) (take r.bytes left) (drop r.bytes left))
          ∙ ap (fed (stepped longest_record listed) (feed_in held rest g.pairs)) (take-append-drop r.bytes left) ∙ g.on)

      -- it handed on nothing, or a pair, which was added
      pub going-none : r.size ≡ 0 → Going adds held₀ rest₀ s₀ part held' r.rest s (take (length left - r.bytes) (drop r.bytes left))
      going-none e = record { pairs = g.pairs; added = g.added; on = further g.pairs (sym (given-none listed g.pairs held' r.size e)) }

      pub going-pair : {s' : S} → (r.size ≡ 0 → ⊥) → adds s (pair_in (take r.size held')) s'
          → Going adds held₀ rest₀ s₀ part held' r.rest s' (take (length left - r.bytes) (drop r.bytes left))
      unfolding listed
      going-pair some a = record {
        pairs = g.pairs ++ pair_in (take r.size held') ∷ [];
        added = folds_more adds s₀ g.pairs g.added a;
        on = further (g.pairs ++ pair_in (take r.size held') ∷ []) (sym (given_pair listed g.pairs held' r.size some refl));
      }

    -- nothing is left
    pub going-over : length left ≡ 0 → (held' : List ℕ) → held' ≡ held_of (take rest held) → Takes adds held₀ rest₀ s₀ part held' rest s
    unfolding fed
    going-over e held' settled =
        let all : feed_in held rest g.pairs ≡ parted held₀ rest₀ part = sym (nothing left e) ∙ g.on in
        record {
          added = rw (← all) g.added;
          rest_is = rw (← all);
          held_is = rw (← all) settled;
        }
      where
        nothing : (l : List ℕ) → length l ≡ 0
            → fed (stepped longest_record listed) (feed_in held rest g.pairs) l ≡ feed_in held rest g.pairs
        nothing [] z = refl
        nothing (b ∷ l) z = absurd (omega arith)

-- ---- over a function

-- an array, a number and a state that have what a feed holds, and nothing else
pub record Holds {A : Type 0} (f : Feed A) (held : List ℕ) (rest : ℕ) (s : A) : Type 0 where
  pub held_is : held ≡ held_of f.kept
  pub rest_is : rest ≡ f.rest
  pub gathered_is : s ≡ f.gathered

-- what a feed holds, with what it gathered read otherwise
over : {A B : Type 0} → (A → B) → Feed A → Feed B
over f s = record { kept = s.kept; rest = s.rest; gathered = f s.gathered }

module _ {A : Type 0} (add : A → Pair → A) where
  folded-more : (a : A) (pairs : List Pair) (pair : Pair) → folded add a (pairs ++ pair ∷ []) ≡ add (folded add a pairs) pair
  unfolding folded
  folded-more a [] pair = refl
  folded-more a (p ∷ pairs) pair = folded-more (add a p) pairs pair

  module _ (most : ℕ) (a : A) where
    stepped-over : (s : Feed (List Pair)) (b : ℕ) → stepped most add (over (folded add a) s) b ≡ over (folded add a) (stepped most listed s b)
    unfolding stepped blank listed over
    stepped-over s b = by (ltb s.rest held_room && starts_pair most (s.kept ++ b ∷ [])) refl
      where
        by : (t : Bool) → (ltb s.rest held_room && starts_pair most (s.kept ++ b ∷ [])) ≡ t
            → stepped most add (over (folded add a) s) b ≡ over (folded add a) (stepped most listed s b)
        by true e = rw (e, folded-more a s.gathered (pair_in (s.kept ++ b ∷ [])))
        by false e = rw e

    fed-over : (s : Feed (List Pair)) (bytes : List ℕ)
        → fed (stepped most add) (over (folded add a) s) bytes ≡ over (folded add a) (fed (stepped most listed) s bytes)
    unfolding fed
    fed-over s [] = refl
    fed-over s (b ∷ bytes) =
        ap (λ (t : Feed A). fed (stepped most add) t bytes) (stepped-over s b) ∙ fed-over (stepped most listed s b) bytes

  -- whatever the state is: what the array holds feeds on as the fold does
  pub feeds : {S : Type 0} (adds : S → Pair → S → Type 0) {held : List ℕ} {rest : ℕ} {s : S} {part held' : List ℕ} {rest' : ℕ} {s' : S}
      → length held ≡ held_room → Takes adds held rest s part held' rest' s' → (a : A)
      → feed_in held' rest' (folded add a (parted held rest part).gathered) ≡ fed (stepped longest_record add) (feed_in held rest a) part
  unfolding parted folded over
  feeds adds {held} {rest} {part = part} room t a =
      let s₀ : Feed (List Pair) = feed_in held rest [] in
      let again = held-again (parted held rest part) (proper-fed longest_record listed s₀ part (rw length-take (omega arith))) in
      rw (t.held_is, t.rest_is, ap (λ (f : Feed (List Pair)). f.kept) again) (sym (fed-over longest_record a s₀ part))

  -- a state that adds a pair by this function
  module _ (adds : A → Pair → A → Type 0) (by : (s : A) (pair : Pair) (s' : A) → adds s pair s' → s' ≡ add s pair) where
    by-function : (s : A) (pairs : List Pair) (s' : A) → FoldsTo adds s pairs s' → s' ≡ folded add s pairs
    unfolding folded
    by-function s [] s' e = sym e
    by-function s (pair ∷ pairs) s' f =
        by-function f.0 pairs s' f.2 ∙ ap (λ (t : A). folded add t pairs) (by s pair f.0 f.1)

    module _ {held : List ℕ} {rest : ℕ} {s : A} {part held' : List ℕ} {rest' : ℕ} {s' : A} (t : Takes adds held rest s part held' rest' s') where
      after-is : over (folded add s) (parted held rest part) ≡ fed (stepped longest_record add) (feed_in held rest s) part
      unfolding parted folded over
      after-is = sym (fed-over longest_record s (feed_in held rest []) part)

      pub gathers : Holds (fed (stepped longest_record add) (feed_in held rest s) part) held' rest' s'
      unfolding over
      gathers = record {
        held_is = t.held_is ∙ ap (λ (f : Feed A). held_of f.kept) after-is;
        rest_is = t.rest_is ∙ ap (λ (f : Feed A). f.rest) after-is;
        gathered_is = by-function s _ s' t.added ∙ ap (λ (f : Feed A). f.gathered) after-is;
      }
