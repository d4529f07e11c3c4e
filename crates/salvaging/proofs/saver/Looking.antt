-- Laws of the loops over what lies ahead, and of the line of a run that is over. Assumes nothing.
use mathlib.Core.Path.{◌≡◌, refl, sym, ap, ◌∙◌}
use mathlib.Core.Bool.{Bool, true, false, cond}
use mathlib.Core.List.{List, [], ◌∷◌}
use Prim.Native.Nat.{ℕ, suc, ◌+◌, ◌-◌, ◌≤◌, ◌<◌}
use native.Mathlib.Numerals.{add-one}
use native.Mathlib.Omega.{arith}
use Rattle.std.specs.Prelude.{Some, None}
use lib.ListN.{length, take, drop, length-drop, drop_of_length-le}
use lib.Seq.{take_all, drop-cons, drop-drop, length-sets}
use borrow.Author.Tests.{le-ltb, lt-ltb, eq-eqb, ne_eqb}
use Rattle.pairs.specs.Cut.{longest_record, pair_size}
use Rattle.pairs.proofs.Cutting.{front-pair}
use Rattle.spell.specs.Decimal.{Written}
use Rattle.feed.specs.Feed.{capped}
use Rattle.door.specs.Contract.{reply_of}
use Rattle.torn.specs.Salvage.{good}
use Rattle.torn.specs.Lines.{skip_line}
use Rattle.torn.specs.Window.{passes, skips_ahead, keeps_ahead, closed_line, line_after, from_after, lost_after}
use Rattle.torn.proofs.Joining.{some_bytes}
use Rattle.torn.proofs.Saving.{good-both}
use Rattle.torn.proofs.Going.{keeps-stop, keeps-more}
use Rattle.salvaging.specs.saver.Ahead.{line_room, kept_size, closing, Closes, stretch_of, Leaves}
use Rattle.salvaging.specs.declared.saver.Place.{Place}
use Rattle.salvaging.proofs.saver.Deciding.{none_good, some_good}

-- the rest of a slice
pub from-here : (w : List ℕ) (i : ℕ) → take (length w - i) (drop i w) ≡ drop i w
from-here w i = take_all (length w - i) (drop i w) (rw length-drop (omega arith))

-- ---- bytes that are skipped

module _ (most : ℕ) (door : List ℕ → List ℕ) (last : Bool) (w : List ℕ) where
  -- i of them so far
  pub record Skipped (i : ℕ) : Type 0 where
    pub within : i ≤ length w
    pub ahead : skips_ahead most door last w ≡ i + skips_ahead most door last (drop i w)

  pub skipped-none : Skipped 0
  skipped-none = record { within = omega arith; ahead = omega arith }

  skips-first : (b : ℕ) (s : List ℕ) (t : Bool) → passes most door last (b ∷ s) ≡ t
      → skips_ahead most door last (b ∷ s) ≡ cond t (suc (skips_ahead most door last s)) 0
  unfolding skips_ahead
  skips-first b s t e = rw e

  skips-none : skips_ahead most door last [] ≡ 0
  unfolding skips_ahead
  skips-none = refl

  module _ {i : ℕ} (s : Skipped i) where
    step : (t : Bool) → i < length w → t ≡ passes most door last (take (length w - i) (drop i w))
        → skips_ahead most door last (drop i w) ≡ cond t (suc (skips_ahead most door last (drop (i + 1) w))) 0
    step t l e =
        let here = drop-cons w i 0 l in
        let p : passes most door last (drop i w) ≡ t = rw (from-here w i) at (sym e) in
        rw (add-one, here) (skips-first _ _ t (rw here at p))

    pub skipped-more : (t : Bool) → i < length w → t ≡ passes most door last (take (length w - i) (drop i w)) → t ≡ true
        → Skipped (i + 1)
    skipped-more t l e z = record { within = omega arith; ahead = omega (arith, s.ahead, rw z at (step t l e)) }

    pub skipped-stop : (t : Bool) → i < length w → t ≡ passes most door last (take (length w - i) (drop i w)) → t ≡ false
        → i ≡ skips_ahead most door last w
    skipped-stop t l e z = omega (arith, s.ahead, rw z at (step t l e))

    pub skipped-all : length w ≤ i → i ≡ skips_ahead most door last w
    skipped-all l =
        let none : skips_ahead most door last (drop i w) ≡ 0 = rw (drop_of_length-le w l) skips-none in
        omega (arith, s.ahead)

-- ---- bytes that are kept

module _ (most : ℕ) (door : List ℕ → List ℕ) (w : List ℕ) where
  pub record Kept (i : ℕ) : Type 0 where
    pub within : i ≤ length w
    pub ahead : keeps_ahead most door w ≡ i + keeps_ahead most door (drop i w)

  pub kept_begins : Kept 0
  kept_begins = record { within = omega arith; ahead = omega arith }

  module _ {i : ℕ} (k : Kept i) where
    pub kept-stop : None ≡ kept_size most door (take (length w - i) (drop i w)) → i ≡ keeps_ahead most door w
    kept-stop e =
        let none : good most door (drop i w) ≡ false = none_good most door (drop i w) (rw (from-here w i) at e) in
        omega (arith, k.ahead, keeps-stop most door (drop i w) none)

    module _ (n : ℕ) (e : Some n ≡ kept_size most door (take (length w - i) (drop i w))) where
      here : (good most door (drop i w) ≡ true) × (n ≡ pair_size most (drop i w))
      here = some_good most door (drop i w) n (rw (from-here w i) at e)

      -- a pair has bytes
      pub some_kept : 0 < n
      some_kept = rw here.1 (some_bytes most (drop i w) (good-both most door (drop i w) here.0).0)

      pub kept_more : Kept (i + n)
      kept_more =
          let size : n ≡ pair_size most (drop i w) = here.1 in
          let bytes = some_bytes most (drop i w) (good-both most door (drop i w) here.0).0 in
          let next : drop n (drop i w) ≡ drop (i + n) w = drop-drop n i w in
          let more : keeps_ahead most door (drop i w) ≡ n + keeps_ahead most door (drop (i + n) w) =
          rw (← next, size) (keeps-more most door (drop i w) here.0) in
          record {
            within = omega (arith, (front-pair most (drop i w) bytes).inside, length-drop i w);
            ahead = omega (arith, k.ahead, more);
          }

-- ---- the line

closing-is : (place : Place) (line : List ℕ) → line_room ≤ length line → closing place line ≡ closed_line place.from place.lost
unfolding closing
closing-is place line room = rw (le-ltb (length line) line_room room)

module _ (place : Place) (line : List ℕ) where
  pub close-small : length line < line_room → Closes place line 0 line
  unfolding closing
  close-small l =
      let t = lt-ltb (length line) line_room l in
      record { counted = rw t; written = rw t; within = omega arith }

  module _ (room : line_room ≤ length line) where
    pub close-none : place.lost ≡ 0 → Closes place line 0 line
    unfolding closing closed_line
    close-none z = record {
      counted = rw (le-ltb (length line) line_room room, eq-eqb place.lost 0 z);
      written = rw (le-ltb (length line) line_room room, eq-eqb place.lost 0 z);
      within = omega arith;
    }

    pub close-line : {line' : List ℕ} {n : ℕ} → (place.lost ≡ 0 → ⊥)
        → Written line_room line 0 (skip_line place.from place.lost) line' n → Closes place line n line'
    unfolding closing closed_line
    close-line some w = record {
      counted = rw (le-ltb (length line) line_room room, ne_eqb place.lost 0 some) (omega (arith, w.ends));
      written = rw (le-ltb (length line) line_room room, ne_eqb place.lost 0 some) w.holds;
      within = omega (arith, w.small, ap length w.holds ∙ length-sets line 0 (skip_line place.from place.lost));
    }

-- ---- all of it

module _ (last : Bool) (window : List ℕ) (place : Place) (line : List ℕ) where
  pub nothing-ahead : length line < line_room
      → Leaves (stretch_of last window place line) line (record { skipped = 0; kept = 0; line = 0; place = place })
  unfolding stretch_of
  nothing-ahead l = record {
    stretch_is = rw (lt-ltb (length line) line_room l);
    line_is = rw (lt-ltb (length line) line_room l);
    within = omega arith;
  }

  module _ (room : line_room ≤ length line) (s k : ℕ) (s-is : s ≡ skips_ahead longest_record reply_of last window)
      (k-is : k ≡ keeps_ahead longest_record reply_of (take (length window - s) (drop s window))) (lost : ℕ)
      (lost_is : lost ≡ capped (place.lost + s)) where
    k-here : k ≡ keeps_ahead longest_record reply_of (drop s window)
    k-here = rw (from-here window s) at k-is

    pub none_kept : k ≡ 0
        → Leaves (stretch_of last window place line) line
        (record { skipped = s; kept = k; line = 0; place = record { from = place.from; lost = lost } })
    unfolding stretch_of line_after from_after lost_after
    none_kept z = record {
      stretch_is = rw (le-ltb (length line) line_room room, ← s-is, ← k-here, eq-eqb k 0 z, lost_is);
      line_is = rw (le-ltb (length line) line_room room, ← s-is, ← k-here, eq-eqb k 0 z);
      within = omega arith;
    }

    pub some-kept : {line' : List ℕ} {n : ℕ} → (k ≡ 0 → ⊥)
        → Closes (record { from = place.from; lost = lost }) line n line' → (from : ℕ)
        → from ≡ capped (capped (place.from + lost) + k)
        → Leaves (stretch_of last window place line) line'
        (record { skipped = s; kept = k; line = n; place = record { from = from; lost = 0 } })
    unfolding stretch_of line_after from_after lost_after
    some-kept {line'} {n} some c from from_is =
        let is : closing (record { from = place.from; lost = lost }) line ≡ closed_line place.from (capped (place.lost + s)) =
        rw lost_is (closing-is (record { from = place.from; lost = capped (place.lost + s) }) line room) in
        record {
          stretch_is = rw (le-ltb (length line) line_room room, ← s-is, ← k-here, ne_eqb k 0 some, ← is, ← c.counted, ← lost_is, ← from_is);
          line_is = rw (le-ltb (length line) line_room room, ← s-is, ← k-here, ne_eqb k 0 some, ← is) c.written;
          within = c.within;
        }
