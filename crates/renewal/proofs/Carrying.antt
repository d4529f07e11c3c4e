-- No part was carried yet, one, and more; and what was carried in all is the converted night. Assumes nothing.
use mathlib.Core.Path.{◌≡◌, refl, sym, ap, ◌∙◌}
use mathlib.Core.Bool.{Bool, true, false, false≢true}
use mathlib.Core.List.{List, [], ◌∷◌, ◌++◌, append-nil, append_assoc}
use Prim.Native.Nat.{ℕ, ◌≤◌}
use native.Mathlib.Omega.{arith}
use lib.ListN.{length, take}
use lib.Seq.{length-sets, take_all}
use borrow.Author.Tests.{le-ltb}
use Rattle.spell.specs.Decimal.{Written, Told}
use Rattle.spell.proofs.Writing.{front_read, told, told-front}
use Rattle.feed.specs.Feed.{capped, held_room}
use Rattle.feed.specs.Parts.{uncut, after_all}
use Rattle.streams.specs.declared.Stream.{Stream}
use Rattle.streams.specs.Stream.{Through, through-none, through-more, Wrote, wrote_none, wrote-more}
use Rattle.renewal.specs.declared.converter.Converter.{Converter}
use Rattle.renewal.specs.declared.converter.Taken.{Taken}
use Rattle.aging.specs.Convert.{converted, changed, refuses, ends_long}
use Rattle.renewal.specs.converter.Put.{put_all, last_out, feed_of, begun, after_part, put_parts, part_room, out_room, front, Fills}
use Rattle.renewal.proofs.converter.Promises.{parts-converted, parts-refused, parts-changed}
use Rattle.renewal.specs.Carried.{Carries, Looks, Renews}

-- ---- parts one after the other

uncut-more : (a b : List (List ℕ)) → uncut (a ++ b) ≡ uncut a ++ uncut b
unfolding uncut
uncut-more [] b = refl
uncut-more (x ∷ a) b = rw (uncut-more a b) (sym (append_assoc x (uncut a) (uncut b)))

after_more : (c : Converter) (a b : List (List ℕ)) → after_all after_part c (a ++ b) ≡ after_all after_part (after_all after_part c a) b
unfolding after_all
after_more c [] b = refl
after_more c (p ∷ a) b = after_more (after_part c p) a b

put-parts-more : (c : Converter) (a b : List (List ℕ)) → put_parts c (a ++ b) ≡ put_parts c a ++ put_parts (after_all after_part c a) b
unfolding put_parts after_all
put-parts-more c [] b = refl
put-parts-more c (p ∷ a) b = rw (put-parts-more (after_part c p) a b) (simp append_assoc)

module _ (wanted : Bool) where
  pub carries-none : (input out : Stream) (c : Converter) → Carries wanted input out c input out c
  unfolding after_all put_parts uncut
  carries-none input out c = record { parts = []; went = through-none input; after = refl; wrote = λ e. wrote_none out; stayed = λ e. refl }

  pub carries-more : {input out input' out' input'' out'' : Stream} {c c' c'' : Converter} → Carries wanted input out c input' out' c'
      → Carries wanted input' out' c' input'' out'' c'' → Carries wanted input out c input'' out'' c''
  carries-more {input} {out} {input'} {out'} {input''} {out''} {c} {c'} p q = record {
    parts = p.parts ++ q.parts;
    went = rw (uncut-more p.parts q.parts)
        (through-more input (uncut p.parts) input' (uncut q.parts) input'' p.went q.went);
    after = q.after ∙ ap (λ (t : Converter). after_all after_part t q.parts) p.after ∙ sym (after_more c p.parts q.parts);
    wrote = λ e.
        let more : put_parts c (p.parts ++ q.parts) ≡ put_parts c p.parts ++ put_parts c' q.parts =
        put-parts-more c p.parts q.parts ∙ ap (λ (t : Converter). put_parts c p.parts ++ put_parts t q.parts) (sym p.after) in
        rw more (wrote-more out (put_parts c p.parts) out' (put_parts c' q.parts) out'' (p.wrote e) (q.wrote e));
    stayed = λ e. q.stayed e ∙ p.stayed e;
  }

-- ---- one part

-- all of it is taken, and what it puts out stands at the front of the buffer
module _ {c : Converter} (part out : List ℕ) {out' : List ℕ} {r : Taken} (small : length part ≤ part_room) (room : out_room ≤ length out)
    (f : Fills c (front part out) out r out') where
  all-taken : front part out ≡ part
  unfolding front
  all-taken = rw (le-ltb _ _ room) (take_all part_room part small)

  pub part-after : r.converter ≡ after_part c part
  part-after = f.converter_is ∙ ap (after_part c) all-taken

  pub part_out : take r.count out' ≡ put_all (feed_of c) part
  part_out =
      let bytes = put_all (feed_of c) (front part out) in
      let fits : length bytes ≤ length out =
      omega (arith, f.counted, f.within, ap length f.written ∙ length-sets out 0 bytes) in
      rw (f.counted, f.written) (front_read out bytes fits) ∙ ap (put_all (feed_of c)) all-taken

module _ (input : Stream) (c : Converter) (input' : Stream) (c' : Converter) (part : List ℕ) (t : Through input part input')
    (e : c' ≡ after_part c part) where
  pub carried-out : (wanted : Bool) → wanted ≡ true → (out out' : Stream) (bytes : List ℕ) → bytes ≡ put_all (feed_of c) part
      → Wrote out bytes out' → Carries wanted input out c input' out' c'
  unfolding after_all put_parts uncut
  carried-out wanted wants out out' bytes b w = record {
    parts = part ∷ [];
    went = rw append-nil t;
    after = e;
    wrote = λ y. rw (append-nil, ← b) w;
    stayed = λ n. absurd (false≢true (sym n ∙ wants));
  }

  pub carried_on : (wanted : Bool) → wanted ≡ false → (out : Stream) → Carries wanted input out c input' out c'
  unfolding after_all uncut
  carried_on wanted plain out = record {
    parts = part ∷ [];
    went = rw append-nil t;
    after = e;
    wrote = λ y. absurd (false≢true (sym plain ∙ y));
    stayed = λ n. refl;
  }

-- ---- all of them

module _ {wanted : Bool} {input out input' out' : Stream} {first last : Converter} (begins : first ≡ begun)
    (k : Carries wanted input out first input' out' last) where
  last-is : last ≡ after_all after_part begun k.parts
  last-is = k.after ∙ ap (λ (c : Converter). after_all after_part c k.parts) begins

  refused-of : {r : Bool} → r ≡ ends_long (feed_of last).kept → r ≡ refuses (uncut k.parts)
  refused-of e = e ∙ ap (λ (c : Converter). ends_long (feed_of c).kept) last-is ∙ parts-refused k.parts

  changed-of : last.changed ≡ capped (changed (uncut k.parts))
  changed-of = ap (λ (c : Converter). c.changed) last-is ∙ parts-changed k.parts

  pub looked : wanted ≡ false → {r : Bool} → r ≡ ends_long (feed_of last).kept
      → Looks input out (record { input = input'; out = out'; refused = r; changed = last.changed })
  looked plain e = record {
    bytes = uncut k.parts;
    went = k.went;
    stayed = k.stayed plain;
    refused_is = refused-of e;
    changed_is = changed-of;
  }

  -- with what is still kept
  pub renewed : wanted ≡ true → {r : Bool} → r ≡ ends_long (feed_of last).kept → (l l' : List ℕ) (n : ℕ) (out'' : Stream) → held_room ≤ length l
      → Told held_room (last_out (feed_of last)) l n l' → Wrote out' (take n l') out''
      → Renews input out (record { input = input'; out = out''; refused = r; changed = last.changed })
  renewed wants e l l' n out'' enough p w =
      let bytes = last_out (feed_of last) in
      let end : take n l' ≡ bytes = told-front held_room bytes l l' n enough p in
      let all : put_parts first k.parts ++ bytes ≡ converted (uncut k.parts) =
      rw (begins, last-is) (parts-converted k.parts) in
      record {
        bytes = uncut k.parts;
        went = k.went;
        wrote = rw (← all) (wrote-more out (put_parts first k.parts) out' bytes out'' (k.wrote wants) (rw end at w));
        refused_is = refused-of e;
        changed_is = changed-of;
      }

-- the line that is printed
pub printed : {room : ℕ} {bytes l l' : List ℕ} {n : ℕ} {out out' : Stream} → room ≤ length l → Written room l 0 bytes l' n
    → Wrote out (take n l') out' → Wrote out bytes out'
printed {room} {bytes} {l} {l'} {n} enough p w = rw (told-front room bytes l l' n enough (told room bytes l l' n enough p)) at w
