-- What a turn of the reader puts out is what the bytes put out that it took; the loop over a part. Assumes nothing.
use mathlib.Core.Path.{◌≡◌, refl, sym, ap, ◌∙◌}
use mathlib.Core.Bool.{Bool, true, false, ◌&&◌}
use mathlib.Core.List.{List, [], ◌∷◌, ◌++◌, append-nil}
use Prim.Native.Nat.{ℕ, ◌+◌, ◌-◌, ◌*◌, ◌≤◌, ◌<◌, min}
use native.Mathlib.Nat.{add-zero, zero-add}
use native.Mathlib.Numerals.{add-one}
use native.Mathlib.Omega.{arith}
use lib.Dec.{ltb, eqb}
use lib.ListN.{length, take, drop, get_or, set, length-append, length-take, length-drop, length-set}
use Rattle.std.proofs.Common.{min}
use Rattle.std.proofs.lemmas.List.{take_min}
use lib.Seq.{length-sets, get_or-drop, take_all, take_at, take-add, take-suc-set, length-take-le}
use borrow.Author.Tests.{lt-ltb, le-ltb, ltb-true, ltb-false, ne_eqb, eqb-true, eqb-false}
use Rattle.pairs.specs.Cut.{starts_pair}
use Rattle.feed.specs.Feed.{Feed, capped, held_room, blank, feed_in, held_of, ahead, Leaves, Hands, after_byte, after_pair, after_turn, given}
use Rattle.feed.specs.Parts.{fed}
use Rattle.feed.specs.declared.Handed.{Handed}
use Rattle.feed.proofs.Parts.{fed-more, Passed, none_passed, all-passed}
use Rattle.feed.proofs.Reading.{Ahead, lies-ahead, turn-passed}
use Rattle.spell.specs.Decimal.{Written}
use Rattle.spell.proofs.Writing.{written_then}
use Rattle.renewal.specs.declared.converter.Converter.{Converter}
use Rattle.renewal.specs.declared.converter.Taken.{Taken}
use Rattle.aging.specs.Convert.{former_longest}
use Rattle.renewal.specs.converter.Put.{counts, step, put_all, turn_out, Handing, feed_of, converter_of, after_part, part_room, out_room, front, Fills}
use Rattle.renewal.proofs.converter.Putting.{put-pair, put-more, put-worth, worth, worth-most, out-whole, out_none, out-full, out-ended}

-- ---- one turn

module _ (held : List ℕ) (rest a : ℕ) where
  abbrev s : Feed ℕ
  s = feed_in held rest a

  -- what a turn leaves to put out
  pub record Puts (part held' : List ℕ) (r : Handed) : Type 0 where
    pub put_is : turn_out held' r rest (get_or part 0 0) ≡ put_all s (take r.bytes part)
    pub handing : Handing held' r.size

  added : (b : ℕ) → length held ≡ held_room → rest < held_room → take (rest + 1) (set held rest b) ≡ take rest held ++ b ∷ []
  added b room l = rw (add-one, take-suc-set held rest b (omega arith))

  module _ (b : ℕ) (part held' : List ℕ) (r : Handed) (room : length held ≡ held_room)
      (l : Leaves (after_byte former_longest held rest b) held' r) where
    byte-puts : Puts (b ∷ part) held' r
    unfolding after_byte turn_out put_all
    byte-puts = by (ltb rest held_room) refl (starts_pair former_longest (take rest held ++ b ∷ [])) refl (eqb (rest + 1) held_room) refl
      where
        long : length held' ≡ held_room
        long = rw l.held_is (simp length-set room)

        test : rest < held_room → (ltb rest (length held) && starts_pair former_longest (take (rest + 1) (set held rest b)))
            ≡ starts_pair former_longest (take rest held ++ b ∷ [])
        test m = rw (room, lt-ltb rest held_room m, added b room m)

        by : (t : Bool) → ltb rest held_room ≡ t → (u : Bool) → starts_pair former_longest (take rest held ++ b ∷ []) ≡ u
            → (v : Bool) → eqb (rest + 1) held_room ≡ v → Puts (b ∷ part) held' r
        by true e true f v g =
            let m : rest < held_room = ltb-true _ _ e in
            let one : capped (rest + 1) ≡ rest + 1 = omega arith in
            let some : eqb (rest + 1) 0 ≡ false = ne_eqb (rest + 1) 0 (λ (z : rest + 1 ≡ 0). omega arith) in
            record {
              put_is = rw (l.handed_is, l.held_is, test m ∙ f, one, some, added b room m, append-nil) (sym (out-whole s b m f));
              handing = record {
                inside = rw (l.handed_is, test m ∙ f, one, long) (omega arith);
                whole = λ n. rw (l.handed_is, l.held_is, test m ∙ f, one, added b room m) f;
              };
            }
        by true e false f true g =
            let m : rest < held_room = ltb-true _ _ e in
            let full : rest + 1 ≡ held_room = eqb-true _ _ g in
            let all : take rest held ++ b ∷ [] ≡ set held rest b =
            sym (added b room m) ∙ take_all (rest + 1) (set held rest b) (simp length-set (omega arith)) in
            let one : capped (rest + 1) ≡ held_room = omega arith in
            record {
              put_is = rw (l.handed_is, l.held_is, test m ∙ f, one, e, append-nil) (sym (out-full s b m f full ∙ all));
              handing = record {
                inside = rw (l.handed_is, test m ∙ f) (omega arith);
                whole = λ n. absurd (n (rw (l.handed_is, test m ∙ f)));
              };
            }
        by true e false f false g =
            let m : rest < held_room = ltb-true _ _ e in
            let less : rest + 1 ≡ held_room → ⊥ = eqb-false (rest + 1) held_room g in
            let one : capped (rest + 1) ≡ rest + 1 = omega arith in
            record {
              put_is = rw (l.handed_is, test m ∙ f, one, e, g, append-nil) (sym (out_none s b m f less));
              handing = record {
                inside = rw (l.handed_is, test m ∙ f) (omega arith);
                whole = λ n. absurd (n (rw (l.handed_is, test m ∙ f)));
              };
            }
        by false e u f v g =
            let big : held_room ≤ rest = ltb-false _ _ e in
            let none : ltb rest (length held) ≡ false = rw room e in
            record {
              put_is = rw (l.handed_is, none, e, append-nil) (sym (out-ended s b big));
              handing = record {
                inside = rw (l.handed_is, none) (omega arith);
                whole = λ n. absurd (n (rw (l.handed_is, none)));
              };
            }

  module _ (n : ℕ) (part held' : List ℕ) (r : Handed) (room : length held ≡ held_room) (p : 0 < n)
      (one : Ahead former_longest rest part n) (l : Leaves (after_pair held part n) held' r) where
    pair_puts : Puts part held' r
    unfolding after_pair turn_out blank
    pair_puts =
        let front : take n (take n part ++ drop n held) ≡ take n part =
        take_at (take n part) _ n (length-take-le n part one.alone.inside) in
        let some : eqb n 0 ≡ false = ne_eqb n 0 (λ (z : n ≡ 0). omega arith) in
        let size : length (take n part ++ drop n held) ≡ n + (held_room - n) =
        rw (length-append, length-take-le n part one.alone.inside, length-drop, room) in
        record {
          put_is = rw (l.handed_is, l.held_is, some, front, one.begun)
              (sym (put-pair a (take n part) one.alone.starts one.alone.all));
          handing = record {
            inside = rw (l.handed_is, l.held_is, size) (omega arith);
            whole = λ z. rw (l.handed_is, l.held_is, front) one.alone.starts;
          };
        }

  pub turn-puts : (part held' : List ℕ) (r : Handed) → 0 < length part → Hands former_longest held rest part held' r → Puts part held' r
  unfolding after_turn
  turn-puts [] held' r some h = absurd (omega arith)
  turn-puts (b ∷ part) held' r some h = by (eqb n 0) refl
    where
      n : ℕ
      n = ahead former_longest rest (b ∷ part)

      by : (t : Bool) → eqb n 0 ≡ t → Puts (b ∷ part) held' r
      by true e = byte-puts b part held' r (h.long some) (rw e at h.leaves)
      by false e =
          let p : 0 < n = omega (arith, eqb-false n 0 e) in
          pair_puts n (b ∷ part) held' r (h.long some) p (lies-ahead former_longest rest n (b ∷ part) refl p) (rw e at h.leaves)

-- ---- the loop over a part

-- i bytes of a part were taken, and what they put out stands in the buffer up to `at`, where there is room for the others
pub record Filling (s₀ : Feed ℕ) (part out₀ : List ℕ) (s : Feed ℕ) (out : List ℕ) (i at : ℕ) : Type 0 where
  pub passed : Passed step s₀ part s i
  pub filled : Written (length (put_all s₀ (take i part))) out₀ 0 (put_all s₀ (take i part)) out at
  pub few : 8 * at + worth s.rest ≤ 9 * (held_room + i)

pub none_filled : (s₀ : Feed ℕ) (part out₀ : List ℕ) → Filling s₀ part out₀ s₀ out₀ 0 0
unfolding put_all
none_filled s₀ part out₀ = record {
  passed = none_passed part;
  filled = record { ends = refl; holds = refl; small = omega arith };
  few = omega (arith, worth-most s₀.rest);
}

pub same-room : {s₀ s : Feed ℕ} {part out₀ out : List ℕ} {i at : ℕ} → Filling s₀ part out₀ s out i at → length out ≡ length out₀
same-room {s₀} {part = part} {out₀ = out₀} {i = i} f = ap length f.filled.holds ∙ length-sets out₀ 0 (put_all s₀ (take i part))

module _ {s₀ : Feed ℕ} {part out₀ out : List ℕ} {i at : ℕ} (held : List ℕ) (rest a : ℕ)
    (f : Filling s₀ part out₀ (feed_in held rest a) out i at) (more : i < length part) {held' : List ℕ} {r : Handed}
    (h : Hands former_longest held rest (take (length part - i) (drop i part)) held' r) where
  here : take (length part - i) (drop i part) ≡ drop i part
  here = take_all (length part - i) (drop i part) (rw length-drop (omega arith))

  some : 0 < length (drop i part)
  some = rw length-drop (omega arith)

  turn : Puts held rest a (drop i part) held' r
  turn = turn-puts held rest a (drop i part) held' r some (rw here at h)

  went : (0 < r.bytes) × Passed step s₀ part (feed_in held' r.rest (given counts a held' r.size)) (i + r.bytes)
  went = turn-passed (omega arith) counts held rest a f.passed more h

  -- what the turn puts out
  turn_is : turn_out held' r rest (get_or part i 0) ≡ put_all (feed_in held rest a) (take r.bytes (drop i part))
  turn_is = rw (get_or-drop, add-zero) at turn.put_is

  pub turn-handing : Handing held' r.size
  turn-handing = turn.handing

  together : put_all s₀ (take (i + r.bytes) part) ≡ put_all s₀ (take i part) ++ turn_out held' r rest (get_or part i 0)
  together = rw (take-add, put-more, ← f.passed.fed_is, turn_is)

  proper : length (take rest held) ≡ min rest held_room
  proper = rw (length-take, h.long (rw here some)) (omega arith)

  -- the state that these bytes leave
  state-is : feed_in held' r.rest (given counts a held' r.size) ≡ fed step (feed_in held rest a) (take r.bytes (drop i part))
  state-is =
      went.1.fed_is ∙ ap (fed step s₀) (take-add i r.bytes part)
      ∙ fed-more step s₀ (take i part) (take r.bytes (drop i part))
      ∙ ap (λ (t : Feed ℕ). fed step t (take r.bytes (drop i part))) (sym f.passed.fed_is)

  fewer : 8 * (at + length (turn_out held' r rest (get_or part i 0))) + worth r.rest ≤ 9 * (held_room + (i + r.bytes))
  fewer =
      let n = r.bytes in
      let w = put-worth (feed_in held rest a) (take n (drop i part)) proper in
      let w' = rw (← turn_is, ← state-is) at w in
      omega (arith, f.few, w', length-take n (drop i part))

  -- there is room for it
  pub turn-fits : length part ≤ part_room → out_room ≤ length out₀
      → at + length (turn_out held' r rest (get_or part i 0)) ≤ length out
  turn-fits l m = omega (arith, fewer, went.1.within, same-room f)

  pub turn-filled : {out' : List ℕ} {at' a' : ℕ}
      → Written (length (turn_out held' r rest (get_or part i 0))) out at (turn_out held' r rest (get_or part i 0)) out' at'
      → a' ≡ given counts a held' r.size
      → Filling s₀ part out₀ (feed_in held' r.rest a') out' (i + r.bytes) at'
  turn-filled w e = record {
    passed = rw e went.1;
    filled = rw (together, length-append) (written_then _ _ _ _ _ _ _ _ _ _ f.filled w);
    few = omega (arith, fewer, w.ends);
  }

  pub turn-within : (0 < r.bytes) × (i + r.bytes ≤ length part)
  turn-within = (went.0, went.1.within)

-- ---- all of a part

pub all-filled : (converter : Converter) (held : List ℕ) (rest changed : ℕ) {part out₀ out held' : List ℕ} {i at : ℕ}
    → Filling (feed_of converter) part out₀ (feed_in held rest changed) out i at → length part ≤ i → length part ≤ part_room
    → out_room ≤ length out₀ → held' ≡ held_of (take rest held)
    → Fills converter part out₀
    (record { converter = record { held = held'; rest = rest; changed = changed }; bytes = i; count = at }) out
unfolding after_part converter_of
all-filled converter held rest changed {part} {out₀} {i = i} f done l m e =
    let all : take i part ≡ part = take_all i part done in
    let w = rw all at f.filled in
    record {
      taken = omega (arith, f.passed.within);
      converter_is = rw (e, ← all-passed f.passed done);
      counted = w.ends ∙ zero-add (length (put_all (feed_of converter) part));
      written = w.holds;
      within = omega (arith, f.few, f.passed.within, same-room f);
    }

-- what is taken of a part
module _ (converter : Converter) (part out : List ℕ) where
  front-none : length out < out_room → front part out ≡ []
  unfolding front
  front-none l = rw (lt-ltb _ _ l)

  front-some : out_room ≤ length out → front part out ≡ take part_room part
  unfolding front
  front-some l = rw (le-ltb _ _ l)

  pub some-taken : {r : Taken} {out' : List ℕ} {n : ℕ} → out_room ≤ length out → n ≡ min part_room (length part)
      → Fills converter (take n part) out r out' → Fills converter (front part out) out r out'
  some-taken {n} l m f = rw (front-some l, ← take_min part_room part, ← m) f

  pub none-taken : length out < out_room → {c : Converter} → c ≡ after_part converter []
      → Fills converter (front part out) out (record { converter = c; bytes = 0; count = 0 }) out
  unfolding put_all
  none-taken l e = rw (front-none l) (record { taken = refl; converter_is = e; counted = refl; written = refl; within = omega arith })
