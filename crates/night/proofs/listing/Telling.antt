-- What is told of a pair, and of the end: one law for each way through the definitions; and what a pair adds. A line
-- and a page are never empty: where nothing is told, the output stays. Assumes nothing.
use mathlib.Core.Path.{◌≡◌, refl, ap, ◌∙◌}
use mathlib.Core.Bool.{Bool, true, false, cond}
use mathlib.Core.List.{List, [], ◌∷◌, ◌++◌}
use Prim.Native.Nat.{ℕ, ◌+◌, ◌<◌}
use native.Mathlib.Omega.{arith}
use lib.ListN.{length, take, length-take}
use lib.Dec.{eqb, ltb}
use borrow.Author.Tests.{eq-eqb, ne_eqb}
use Rattle.wire.specs.Start.{length_field, is_length, record_in, behind}
use Rattle.pairs.specs.Cut.{longest_record, pair_in}
use Rattle.door.specs.Contract.{reply_of}
use Rattle.feed.specs.Feed.{capped}
use Rattle.fives.specs.Replay.{agrees}
use Rattle.page.specs.Page.{counted, Puts}
use Rattle.page.proofs.Putting.{page-read}
use Rattle.shown.specs.entries.Entry.{title_of, entry_line}
use Rattle.shown.specs.entries.Ending.{no_length, cut_off, whole_trace, second_ending, ending_line}
use Rattle.shown.specs.Page.{shown_page}
use Rattle.streams.specs.declared.Stream.{Stream}
use Rattle.streams.specs.Stream.{Wrote, wrote_none, wrote-more}
use Rattle.night.specs.declared.listing.State.{State}
use Rattle.night.specs.listing.Tale.{Tale, page_room, on_page, told_of, differing, tells, closing}
use Rattle.night.specs.listing.Contract.{Sends, Adds}

-- ---- nothing was told; and more, one after the other

pub sends_none : (out : Stream) → Sends out [] out
sends_none out = record { wrote = wrote_none out; none = λ e. refl }

first-none : (a b : List ℕ) → a ++ b ≡ [] → a ≡ []
first-none [] b e = refl
first-none (x ∷ a) b e = absurd (omega (arith, ap length e))

then-none : (a b : List ℕ) → a ++ b ≡ [] → b ≡ []
then-none [] b e = e
then-none (x ∷ a) b e = absurd (omega (arith, ap length e))

pub sends_more : (out : Stream) (a : List ℕ) (m : Stream) (b : List ℕ) (out' : Stream) → Sends out a m → Sends m b out'
    → Sends out (a ++ b) out'
sends_more out a m b out' p q = record {
  wrote = wrote-more out a m b out' p.wrote q.wrote;
  none = λ e. q.none (then-none a b e) ∙ p.none (first-none a b e);
}

-- a text that was put on a page, and the page written
pub paged : (page text page' front : List ℕ) (n : ℕ) (out out' : Stream) → 0 < length text → length page ≡ page_room → Puts page 0 text page' n
    → front ≡ take n page' → Wrote out front out' → Sends out (on_page text) out'
unfolding on_page
paged page text page' front n out out' some room p e w = record {
  wrote = rw (e ∙ page-read page text page' n p ∙ ap (λ (k : ℕ). take k text) room) at w;
  none = λ z. absurd (omega (arith, some, ap length z, length-take page_room text));
}

-- ---- a line and a page begin with a word

pub some-line : (number offset : ℕ) (request reply today : List ℕ) → 0 < length (entry_line number offset request reply today)
unfolding entry_line title_of counted
some-line number offset request reply today = omega arith

pub some-page : (number offset : ℕ) (request reply today : List ℕ) → 0 < length (shown_page number offset request reply today)
unfolding shown_page title_of counted
some-page number offset request reply today = omega arith

pub some-ending : (offset rest : ℕ) (kept : List ℕ) → 0 < length (ending_line offset rest kept)
unfolding ending_line second_ending no_length cut_off whole_trace counted
some-ending offset rest kept =
    by (eqb rest 0) (ltb rest 2) (is_length longest_record (length_field kept)) (ltb rest (length_field kept + 2))
    (is_length longest_record (length_field (behind kept)))
  where
    by : (none short first within second : Bool) → 0 < length
        (cond none (whole_trace offset)
        (cond short (cut_off offset rest)
        (cond first
        (cond within (cut_off offset rest)
        (cond second (cut_off offset rest) (no_length (length_field (behind kept)) (capped (offset + length_field kept)))))
        (no_length (length_field kept) offset))))
    by true short first within second = omega arith
    by false true first within second = omega arith
    by false false true true second = omega arith
    by false false true false true = omega arith
    by false false true false false = omega arith
    by false false false within second = omega arith

-- ---- what is told of a pair

module _ (alike : Bool) (number offset : ℕ) (request reply today : List ℕ) (out : Stream) where
  pub told-alike : alike ≡ true → Sends out (told_of 0 alike number offset request reply today) out
  unfolding told_of
  told-alike a = rw a (sends_none out)

  pub told_line : (out' : Stream) → alike ≡ false → Sends out (on_page (entry_line number offset request reply today)) out'
      → Sends out (told_of 0 alike number offset request reply today) out'
  unfolding told_of
  told_line out' a w = rw a w

module _ (wanted : ℕ) (alike : Bool) (number offset : ℕ) (request reply today : List ℕ) (out : Stream) where
  pub told-each : (out' : Stream) → wanted ≡ 0 → Sends out (told_of 0 alike number offset request reply today) out'
      → Sends out (told_of wanted alike number offset request reply today) out'
  told-each out' z w = rw z w

  pub told-other : (wanted ≡ 0 → ⊥) → (wanted ≡ number → ⊥) → Sends out (told_of wanted alike number offset request reply today) out
  unfolding told_of
  told-other z o = rw (ne_eqb wanted 0 z, ne_eqb wanted number o) (sends_none out)

  pub told-page : (out' : Stream) → (wanted ≡ 0 → ⊥) → wanted ≡ number → Sends out (on_page (shown_page number offset request reply today)) out'
      → Sends out (told_of wanted alike number offset request reply today) out'
  unfolding told_of
  told-page out' z e w = rw (ne_eqb wanted 0 z, eq-eqb wanted number e) w

-- ---- and of the end

module _ (wanted : ℕ) (failed : Bool) (offset rest : ℕ) (kept : List ℕ) (out : Stream) where
  pub closed_none : (wanted ≡ 0 → ⊥) → Sends out (closing wanted failed offset rest kept) out
  unfolding closing
  closed_none z = rw (ne_eqb wanted 0 z) (sends_none out)

  pub closed-failed : wanted ≡ 0 → failed ≡ true → Sends out (closing wanted failed offset rest kept) out
  unfolding closing
  closed-failed z f = rw (eq-eqb wanted 0 z, f) (sends_none out)

  pub closed-line : (out' : Stream) → wanted ≡ 0 → failed ≡ false → Sends out (on_page (ending_line offset rest kept)) out'
      → Sends out (closing wanted failed offset rest kept) out'
  unfolding closing
  closed-line out' z f w = rw (eq-eqb wanted 0 z, f) w

-- ---- what a pair adds

pub adds-asked : (wanted : ℕ) (s : State) (bytes request reply today : List ℕ) (alike : Bool) (number offset differ : ℕ) (out : Stream)
    → request ≡ record_in bytes → reply ≡ record_in (behind bytes) → alike ≡ agrees reply_of (pair_in bytes) → today ≡ reply_of request
    → number ≡ capped (s.calls + 1) → offset ≡ capped (capped (s.offset + length request) + length reply)
    → differ ≡ differing wanted alike number s.differ
    → Sends s.out (told_of wanted alike number s.offset request reply today) out
    → Adds (λ (t : Tale). tells reply_of wanted t (pair_in bytes)) s (record { calls = number; offset = offset; differ = differ; out = out })
unfolding tells pair_in
adds-asked wanted s bytes request reply today alike number offset differ out q p a d n o i w = record {
  more = told_of wanted alike number s.offset request reply today;
  after = λ text. rw (i, o, a, n, d, q, p);
  sent = w;
}
