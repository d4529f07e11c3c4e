-- What the contracts promise: each leaves no choice; parts one after the other make the converter that the uncut trace makes and
-- put out, with what is still kept at the end, the converted trace; and the converter tells whether the trace can be converted
-- and how many requests are changed. Assumes nothing.
use mathlib.Core.Path.{◌≡◌, refl, sym, ap, ◌∙◌}
use mathlib.Core.Bool.{Bool, true, false, cond, ◌&&◌, ◌||◌}
use mathlib.Core.List.{List, [], ◌∷◌, ◌++◌, append-nil, append_assoc}
use Prim.Native.Nat.{ℕ, ◌+◌, ◌≤◌}
use native.Mathlib.Omega.{arith}
use lib.Dec.{leb, ltb}
use lib.ListN.{length, take, drop, length-append, length-take, take-append-drop}
use lib.Seq.{sets, take_all}
use borrow.Author.Tests.{le-leb, ltb-true, ltb-false}
use Rattle.whole.proofs.Determined.{Determined}
use Rattle.spell.specs.Decimal.{Told}
use Rattle.spell.proofs.Determined.{told-determined as fixed}
use Rattle.wire.specs.Start.{length_field, is_length, starts_record, behind}
use Rattle.pairs.specs.Cut.{Pair, cut}
use Rattle.pairs.proofs.Cutting.{is-length, field-more, behind_more, behind-size}
use Rattle.feed.specs.Feed.{Feed, capped, held_room, folded, how_many, blank, feed_of as fed_of}
use Rattle.feed.specs.Parts.{fed, uncut, after_all}
use Rattle.feed.proofs.Parts.{fed-more}
use Rattle.feed.proofs.Reading.{took, folded-is, how-many-more, Proper, proper-fed, held-again}
use Rattle.renewal.specs.declared.converter.Converter.{Converter}
use Rattle.renewal.specs.declared.converter.Taken.{Taken}
use Rattle.aging.specs.Convert.{former_longest, changes, changed, converted, starts_long, ends_long, refuses}
use Rattle.renewal.specs.converter.Put.{counts, step, put_all, last_out, feed_of, converter_of, begun, after_part, put_parts, Fills}
use Rattle.renewal.proofs.converter.Putting.{put-converted, put-more}

-- ---- the contracts fix their results

pub new-determined : Determined (λ (r : Converter). r ≡ begun)
new-determined = record { value = _; only = λ r e. e }

pub refused-determined : (converter : Converter) → Determined (λ (r : Bool). r ≡ ends_long (feed_of converter).kept)
refused-determined converter = record { value = _; only = λ r e. e }

-- a count and a lent buffer
pub told-determined : (room : ℕ) (bytes out : List ℕ) → Determined (λ (r : ℕ × List ℕ). Told room bytes out r.0 r.1)
told-determined room bytes out = fixed room bytes out

-- what `take` answers, and the buffer that it leaves
pub record TakenBack : Type 0 where
  pub taken : Taken
  pub out : List ℕ

pub take-determined : (converter : Converter) (bytes out : List ℕ)
    → Determined (λ (b : TakenBack). Fills converter bytes out b.taken b.out)
take-determined converter bytes out = record {
  value = record {
    taken = record { converter = after_part converter bytes; bytes = length bytes; count = length (put_all (feed_of converter) bytes) };
    out = sets out 0 (put_all (feed_of converter) bytes);
  };
  only = λ b f t. record {
    taken = record { converter = f.converter_is t; bytes = f.taken t; count = f.counted t };
    out = f.written t;
  };
}

-- ---- parts and the whole

-- the converter that took bytes from nothing
abbrev after : List ℕ → Converter
after bytes = converter_of (fed step (blank 0) bytes)

none-proper : (n : ℕ) → Proper (blank n)
unfolding blank
none-proper n = refl

nothing : (s : Feed ℕ) → [] ≡ put_all s []
unfolding put_all
nothing s = refl

taken-again : (bytes : List ℕ) → feed_of (after bytes) ≡ fed step (blank 0) bytes
unfolding converter_of
taken-again bytes = held-again (fed step (blank 0) bytes) (proper-fed former_longest counts (blank 0) bytes (none-proper 0))

nothing-taken : begun ≡ after []
unfolding begun fed
nothing-taken = refl

after_more : (bytes part : List ℕ) → after_part (after bytes) part ≡ after (bytes ++ part)
unfolding after_part
after_more bytes part =
    ap (λ (s : Feed ℕ). converter_of (fed step s part)) (taken-again bytes)
    ∙ ap converter_of (sym (fed-more step (blank 0) bytes part))

after-all : (bytes : List ℕ) (parts : List (List ℕ)) → after_all after_part (after bytes) parts ≡ after (bytes ++ uncut parts)
unfolding after_all uncut
after-all bytes [] = rw append-nil
after-all bytes (part ∷ parts) =
    ap (λ (c : Converter). after_all after_part c parts) (after_more bytes part)
    ∙ after-all (bytes ++ part) parts
    ∙ ap after (append_assoc bytes part (uncut parts))

put-all : (bytes : List ℕ) (parts : List (List ℕ)) → put_parts (after bytes) parts ≡ put_all (fed step (blank 0) bytes) (uncut parts)
unfolding put_parts uncut
put-all bytes [] = nothing (fed step (blank 0) bytes)
put-all bytes (part ∷ parts) =
    rw (taken-again bytes, after_more bytes part, put-all (bytes ++ part) parts, fed-more step (blank 0) bytes part)
    (sym (put-more (fed step (blank 0) bytes) part (uncut parts)))

all_after : (parts : List (List ℕ)) → after_all after_part begun parts ≡ after (uncut parts)
all_after parts = ap (λ (c : Converter). after_all after_part c parts) nothing-taken ∙ after-all [] parts

-- "parts give what the whole gives": the converter
pub same-converter : (parts : List (List ℕ)) → after_all after_part begun parts ≡ after_part begun (uncut parts)
same-converter parts =
    rw nothing-taken (after-all [] parts ∙ sym (after_more [] (uncut parts)))

-- what is put out, with what is kept at the end
pub parts-converted : (parts : List (List ℕ))
    → put_parts begun parts ++ last_out (feed_of (after_all after_part begun parts)) ≡ converted (uncut parts)
unfolding fed
parts-converted parts =
    rw (nothing-taken, after-all [] parts, taken-again (uncut parts), put-all [] parts) (put-converted (uncut parts))

-- ---- what the converter tells

-- of what is left the first 256 bytes are enough
long-more : (a x : List ℕ) → 2 ≤ length a → starts_long (a ++ x) ≡ starts_long a
unfolding starts_long
long-more a x two =
    rw (field-more a x two, le-leb 2 (length a) two, le-leb 2 (length (a ++ x)) (rw length-append (omega arith)))

module _ (p x : List ℕ) (full : length p ≡ held_room) where
  two : 2 ≤ length p
  two = omega arith

  front_same : ends_long (p ++ x) ≡ ends_long p
  unfolding ends_long starts_record
  front_same = rw (long-more p x two, field-more p x two) (by (is_length former_longest (length_field p)) refl)
    where
      by : (t : Bool) → is_length former_longest (length_field p) ≡ t
          → (starts_long p || (is_length former_longest (length_field p) && leb (length_field p) (length (p ++ x)) && starts_long (behind (p ++ x))))
          ≡ (starts_long p || (is_length former_longest (length_field p) && leb (length_field p) (length p) && starts_long (behind p)))
      by true e =
          let l = (is-length former_longest (length_field p) e).1 in
          let b : starts_long (behind (p ++ x)) ≡ starts_long (behind p) =
          ap starts_long (behind_more p x two (omega arith)) ∙ long-more (behind p) x (omega (arith, behind-size p)) in
          rw (b, le-leb (length_field p) (length p) (omega arith), le-leb (length_field p) (length (p ++ x)) (rw length-append (omega arith)))
      by false e = rw e

ends-front : (left : List ℕ) → ends_long (take held_room left) ≡ ends_long left
ends-front left = by (ltb (length left) held_room) refl
  where
    by : (t : Bool) → ltb (length left) held_room ≡ t → ends_long (take held_room left) ≡ ends_long left
    by true e = ap ends_long (take_all held_room left (omega (arith, ltb-true (length left) held_room e)))
    by false e =
        sym (front_same (take held_room left) (drop held_room left)
        (simp length-take (omega (arith, ltb-false (length left) held_room e)))) ∙ ap ends_long (take-append-drop held_room left)

-- "provided the old reading did not end at a record length of 127 or 128"
read_kept : (bytes : List ℕ) → ends_long (fed_of former_longest counts 0 bytes).kept ≡ refuses bytes
unfolding refuses fed_of
read_kept bytes = ends-front (cut former_longest bytes).left

pub parts-refused : (parts : List (List ℕ)) → ends_long (feed_of (after_all after_part begun parts)).kept ≡ refuses (uncut parts)
parts-refused parts =
    ap (λ (c : Converter). ends_long (feed_of c).kept) (all_after parts)
    ∙ ap (λ (s : Feed ℕ). ends_long s.kept) (taken-again (uncut parts) ∙ took former_longest (omega arith) counts 0 (uncut parts))
    ∙ read_kept (uncut parts)

-- the requests that are changed, up to the greatest number of 64 bits
counted : List Pair → ℕ
counted ps = capped (how_many changes ps)

counts-more : (ps : List Pair) (p : Pair) → counts (counted ps) p ≡ counted (ps ++ p ∷ [])
unfolding counts counted
counts-more ps p = rw (how-many-more changes ps p) (by (changes p) (how_many changes ps))
  where
    by : (t : Bool) (n : ℕ) → cond t (capped (capped n + 1)) (capped n) ≡ capped (n + cond t 1 0)
    by true n = omega arith
    by false n = omega arith

counts_all : (ps : List Pair) → folded counts 0 ps ≡ counted ps
unfolding counted how_many
counts_all ps = folded-is counts counted counts-more ps

pub parts-changed : (parts : List (List ℕ)) → (after_all after_part begun parts).changed ≡ capped (changed (uncut parts))
unfolding changed fed_of converter_of counted
parts-changed parts =
    rw (nothing-taken, after-all [] parts, took former_longest (omega arith) counts 0 (uncut parts))
    (counts_all (cut former_longest (uncut parts)).pairs)
