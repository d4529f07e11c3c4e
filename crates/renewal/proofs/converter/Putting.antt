-- What is put out on the way and at the end is the converted trace, however it is cut into parts; and it has room.
-- Assumes nothing.
use mathlib.Core.Path.{◌≡◌, refl, sym, ap, ◌∙◌}
use mathlib.Core.Bool.{Bool, true, false, cond}
use mathlib.Core.List.{List, [], ◌∷◌, ◌++◌, map, append_assoc, append-nil}
use Prim.Native.Nat.{ℕ, ◌+◌, ◌*◌, ◌≤◌, ◌<◌}
use native.Mathlib.Omega.{arith}
use lib.Dec.{ltb, eqb}
use lib.ListN.{length, take, length-append}
use lib.Seq.{take_all, length-take-le}
use borrow.Author.Tests.{lt-ltb, le-ltb, ltb-true, ltb-false, eq-eqb, ne_eqb, eqb-true, eqb-false}
use Rattle.wire.specs.Start.{length_field, record_in, behind}
use Rattle.pairs.specs.Cut.{Pair, starts_pair, pair_in, cut_in, cut, joined}
use Rattle.pairs.proofs.Cutting.{not-both-ways, whole_pair, behind-size, left-starts-none, cut-more, cut-none, cut-one}
use Rattle.pairs.proofs.Cutting.{just-whole, none-so-long}
use Rattle.feed.specs.Feed.{Feed, capped, held_room, blank, feed_of as fed_of}
use Rattle.feed.specs.Parts.{fed}
use Rattle.feed.proofs.Reading.{step-whole, step-on, step_of, nothing_read, took, Proper, proper-step}
use Rattle.aging.specs.Convert.{former_longest, aged, aged_pair, converted}
use Rattle.renewal.specs.converter.Put.{counts, step, aged_bytes, put_out, put_all, last_out}
use Rattle.aging.proofs.Records.{record_of_lem, aged-grown}

-- ---- what was put out of a whole trace so far

-- the pairs, and what is left where the reading has ended
unfoldable passed : List ℕ → List ℕ
passed left = cond (ltb (length left) held_room) [] left

abbrev out_of : List ℕ → List ℕ
out_of bytes = joined (map aged_pair (cut former_longest bytes).pairs) ++ passed (cut former_longest bytes).left

joined-more : (ps : List Pair) (p : Pair) → joined (map aged_pair (ps ++ p ∷ []))
    ≡ joined (map aged_pair ps) ++ ((aged_pair p).request ++ (aged_pair p).reply)
unfolding joined
joined-more [] p = append-nil _
joined-more (q ∷ ps) p = rw (joined-more ps p) (simp append_assoc)

module _ (s : Feed ℕ) (b : ℕ) where
  pub out-whole : s.rest < held_room → starts_pair former_longest (s.kept ++ b ∷ []) ≡ true → put_out s b ≡ aged_bytes (s.kept ++ b ∷ [])
  unfolding put_out
  out-whole l e = rw (lt-ltb _ _ l, e)

  pub out_none : s.rest < held_room → starts_pair former_longest (s.kept ++ b ∷ []) ≡ false → (s.rest + 1 ≡ held_room → ⊥) → put_out s b ≡ []
  unfolding put_out
  out_none l e n = rw (lt-ltb _ _ l, e, ne_eqb (s.rest + 1) held_room n)

  pub out-full : s.rest < held_room → starts_pair former_longest (s.kept ++ b ∷ []) ≡ false → s.rest + 1 ≡ held_room
      → put_out s b ≡ s.kept ++ b ∷ []
  unfolding put_out
  out-full l e n = rw (lt-ltb _ _ l, e, eq-eqb (s.rest + 1) held_room n)

  pub out-ended : held_room ≤ s.rest → put_out s b ≡ b ∷ []
  unfolding put_out
  out-ended l = rw (le-ltb _ _ l)

passed_none : (left : List ℕ) → length left < held_room → passed left ≡ []
unfolding passed
passed_none left l = rw (lt-ltb _ _ l)

passed-all : (left : List ℕ) → held_room ≤ length left → passed left ≡ left
unfolding passed
passed-all left l = rw (le-ltb _ _ l)

module _ (none : ℕ) where
  abbrev read_of : List ℕ → Feed ℕ
  read_of bytes = fed_of former_longest counts none bytes

  put_one : (bytes : List ℕ) (b : ℕ) → out_of bytes ++ put_out (read_of bytes) b ≡ out_of (bytes ++ b ∷ [])
  unfolding fed_of aged_bytes
  put_one bytes b = by (starts_pair former_longest (left ++ b ∷ [])) refl (ltb (length left) held_room) refl (eqb (length left + 1) held_room) refl
    where
      left : List ℕ
      left = (cut former_longest bytes).left

      done : List ℕ
      done = joined (map aged_pair (cut former_longest bytes).pairs)

      more : ((cut former_longest (bytes ++ b ∷ [])).pairs ≡ (cut former_longest bytes).pairs ++ (cut former_longest (left ++ b ∷ [])).pairs)
          × ((cut former_longest (bytes ++ b ∷ [])).left ≡ (cut former_longest (left ++ b ∷ [])).left)
      more = cut-more former_longest bytes (b ∷ [])

      size : length (left ++ b ∷ []) ≡ length left + 1
      size = length-append left (b ∷ [])

      kept : length left < held_room → take held_room left ≡ left
      kept l = take_all held_room left (omega arith)

      -- no pair became whole
      on : starts_pair former_longest (left ++ b ∷ []) ≡ false → out_of (bytes ++ b ∷ []) ≡ done ++ passed (left ++ b ∷ [])
      on e =
          let none-cut = cut-none former_longest (left ++ b ∷ []) e in
          rw (more.0, more.1, none-cut.0, none-cut.1, append-nil)

      by : (t : Bool) → starts_pair former_longest (left ++ b ∷ []) ≡ t → (u : Bool) → ltb (length left) held_room ≡ u
          → (v : Bool) → eqb (length left + 1) held_room ≡ v → out_of bytes ++ put_out (read_of bytes) b ≡ out_of (bytes ++ b ∷ [])
      by true e true l v f =
          let room : length left < held_room = ltb-true _ _ l in
          let one = cut-one former_longest (left ++ b ∷ []) e (just-whole former_longest left b (left-starts-none former_longest bytes) e) in
          rw (
            out-whole (read_of bytes) b (omega arith) (rw (kept room) e),
            kept room,
            passed_none left room,
            more.0,
            more.1,
            one.0,
            one.1,
            joined-more (cut former_longest bytes).pairs (pair_in (left ++ b ∷ [])),
            append-nil,
            passed_none [] (omega arith),
            append-nil,
          )
      by true e false l v f = absurd (not-both-ways e
          (none-so-long former_longest left b (omega (arith, ltb-false (length left) held_room l)) (left-starts-none former_longest bytes)))
      by false e true l true f =
          let room : length left < held_room = ltb-true _ _ l in
          let full : length left + 1 ≡ held_room = eqb-true _ _ f in
          rw (
            out-full (read_of bytes) b (omega arith) (rw (kept room) e) (omega arith),
            on e,
            passed_none left room,
            append-nil,
            kept room,
            passed-all (left ++ b ∷ []) (omega (arith, size)),
          )
      by false e true l false f =
          let room : length left < held_room = ltb-true _ _ l in
          let less : length left + 1 ≡ held_room → ⊥ = eqb-false (length left + 1) held_room f in
          rw (
            out_none (read_of bytes) b (omega arith) (rw (kept room) e) (λ (z : capped (length left) + 1 ≡ held_room). less (omega arith)),
            on e,
            passed_none left room,
            append-nil,
            passed_none (left ++ b ∷ []) (omega (arith, size, eqb-false (length left + 1) held_room f)),
          )
      by false e false l v f =
          let big : held_room ≤ length left = ltb-false _ _ l in
          rw (
            out-ended (read_of bytes) b (omega arith),
            on e,
            passed-all left big,
            passed-all (left ++ b ∷ []) (omega (arith, size)),
            append_assoc,
          )

  put_of : (bytes part : List ℕ) → out_of bytes ++ put_all (read_of bytes) part ≡ out_of (bytes ++ part)
  unfolding put_all
  put_of bytes [] = rw (append-nil, append-nil)
  put_of bytes (b ∷ part) =
      rw (step_of former_longest (omega arith) counts none bytes b)
      (sym (append_assoc (out_of bytes) (put_out (read_of bytes) b) (put_all (read_of (bytes ++ b ∷ [])) part))
      ∙ ap (λ (l : List ℕ). l ++ put_all (read_of (bytes ++ b ∷ [])) part) (put_one bytes b)
      ∙ put_of (bytes ++ b ∷ []) part
      ∙ ap out_of (append_assoc bytes (b ∷ []) part))

  put-read : (bytes : List ℕ) → put_all (blank none) bytes ≡ out_of bytes
  unfolding cut cut_in joined passed
  put-read bytes = rw (← nothing_read former_longest (omega arith) counts none) (put_of [] bytes)

  -- one pair and no more
  pub put-pair : (p : List ℕ) → starts_pair former_longest p ≡ true → behind (behind p) ≡ [] → put_all (blank none) p ≡ aged_bytes p
  unfolding joined aged_bytes passed
  put-pair p e all = let one = cut-one former_longest p e all in put-read p ∙ rw (one.0, one.1, append-nil, append-nil)

-- what is put out on the way, and at the end
last-is : (bytes : List ℕ) → out_of bytes ++ last_out (fed_of former_longest counts 0 bytes) ≡ converted bytes
unfolding last_out fed_of converted
last-is bytes = by (ltb (length left) held_room) refl
  where
    left : List ℕ
    left = (cut former_longest bytes).left

    by : (t : Bool) → ltb (length left) held_room ≡ t
        → out_of bytes ++ cond (ltb (capped (length left)) held_room) (take held_room left) []
        ≡ joined (map aged_pair (cut former_longest bytes).pairs) ++ left
    by true l =
        let room : length left < held_room = ltb-true _ _ l in
        rw (lt-ltb (capped (length left)) held_room (omega arith), passed_none left room, take_all held_room left (omega arith), append-nil)
    by false l =
        let big : held_room ≤ length left = ltb-false _ _ l in
        rw (le-ltb (capped (length left)) held_room (omega arith), passed-all left big, append-nil)

pub put-converted : (bytes : List ℕ) → put_all (blank 0) bytes ++ last_out (fed step (blank 0) bytes) ≡ converted bytes
put-converted bytes = rw (put-read 0 bytes, took former_longest (omega arith) counts 0 bytes) (last-is bytes)

-- ---- one part after the other

pub put-more : (s : Feed ℕ) (a x : List ℕ) → put_all s (a ++ x) ≡ put_all s a ++ put_all (fed step s a) x
unfolding put_all fed
put-more s [] x = refl
put-more s (b ∷ a) x = rw (put-more (step s b) a x) (simp append_assoc)

-- ---- the room for it

-- a byte more is worth nine eighths of a byte: what is kept is not yet put out
unfoldable pub worth : ℕ → ℕ
worth rest = cond (ltb rest held_room) (9 * rest) 0

worth-kept : (n : ℕ) → n < held_room → worth n ≡ 9 * n
unfolding worth
worth-kept n l = rw (lt-ltb _ _ l)

worth-none : (n : ℕ) → held_room ≤ n → worth n ≡ 0
unfolding worth
worth-none n l = rw (le-ltb _ _ l)

record-size : (bytes : List ℕ) → length_field bytes ≤ length bytes → length (record_in bytes) ≡ length_field bytes
unfolding record_in
record-size bytes l = length-take-le (length_field bytes) bytes l

pub aged-few : (bytes : List ℕ) → starts_pair former_longest bytes ≡ true → 8 * length (aged_bytes bytes) ≤ 9 * length bytes
unfolding aged_bytes aged_pair pair_in
aged-few bytes e =
    let w = whole_pair former_longest bytes e in
    let q = record_of_lem former_longest bytes w.0 in
    let p = record_of_lem former_longest (behind bytes) w.1 in
    let g = aged-grown q in
    omega (
      arith,
      length-append (aged (record_in bytes)) (record_in (behind bytes)),
      g.most,
      q.least,
      p.least,
      sizes bytes w.0.there w.1.there,
    )
  where
    sizes : (bytes : List ℕ) → length_field bytes ≤ length bytes → length_field (behind bytes) ≤ length (behind bytes)
        → length (record_in bytes) + length (record_in (behind bytes)) ≤ length bytes
    sizes bytes l m = omega (arith, record-size bytes l, record-size (behind bytes) m, behind-size bytes)

put-few : (s : Feed ℕ) (b : ℕ) → Proper s → 8 * length (put_out s b) + worth (step s b).rest ≤ worth s.rest + 9
unfolding blank
put-few s b proper = by (starts_pair former_longest (s.kept ++ b ∷ [])) refl (ltb s.rest held_room) refl
    (eqb (s.rest + 1) held_room) refl
  where
    size : length (s.kept ++ b ∷ []) ≡ length s.kept + 1
    size = length-append s.kept (b ∷ [])

    by : (t : Bool) → starts_pair former_longest (s.kept ++ b ∷ []) ≡ t → (u : Bool) → ltb s.rest held_room ≡ u
        → (v : Bool) → eqb (s.rest + 1) held_room ≡ v
        → 8 * length (put_out s b) + worth (step s b).rest ≤ worth s.rest + 9
    by true e true l v f =
        let room : s.rest < held_room = ltb-true _ _ l in
        rw (out-whole s b room e, step-whole former_longest counts s b room e, worth-kept s.rest room, worth-kept 0 (omega arith))
        (omega (arith, aged-few (s.kept ++ b ∷ []) e, size, proper))
    by t e false l v f =
        let big : held_room ≤ s.rest = ltb-false _ _ l in
        rw (out-ended s b big, step-on former_longest counts s b (rw l), worth-none (capped (s.rest + 1)) (omega arith))
        (omega arith)
    by false e true l true f =
        let room : s.rest < held_room = ltb-true _ _ l in
        let full : s.rest + 1 ≡ held_room = eqb-true _ _ f in
        rw (
          out-full s b room e full,
          step-on former_longest counts s b (rw (l, e)),
          worth-kept s.rest room,
          worth-none (capped (s.rest + 1)) (omega arith),
        )
        (omega (arith, size, proper))
    by false e true l false f =
        let room : s.rest < held_room = ltb-true _ _ l in
        let less : capped (s.rest + 1) < held_room = omega (arith, eqb-false (s.rest + 1) held_room f) in
        rw (
          out_none s b room e (eqb-false (s.rest + 1) held_room f),
          step-on former_longest counts s b (rw (l, e)),
          worth-kept s.rest room,
          worth-kept (capped (s.rest + 1)) less,
        )
        (omega arith)

-- bytes one after the other
pub put-worth : (s : Feed ℕ) (part : List ℕ) → Proper s
    → 8 * length (put_all s part) + worth (fed step s part).rest ≤ worth s.rest + 9 * length part
unfolding put_all fed
put-worth s [] proper = omega arith
put-worth s (b ∷ part) proper =
    omega (
      arith,
      length-append (put_out s b) (put_all (step s b) part),
      put-few s b proper,
      put-worth (step s b) part (proper-step former_longest counts s b proper),
    )

pub worth-most : (n : ℕ) → worth n ≤ 9 * held_room
worth-most n = by (ltb n held_room) refl
  where
    by : (t : Bool) → ltb n held_room ≡ t → worth n ≤ 9 * held_room
    by true l = let room : n < held_room = ltb-true _ _ l in rw (worth-kept n room) (omega arith)
    by false l = rw (worth-none n (ltb-false _ _ l)) (omega arith)
