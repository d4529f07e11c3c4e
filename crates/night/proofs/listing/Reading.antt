-- A part, parts one after the other, and all of them: what was told, and written, is that of the whole.
-- Assumes nothing.
use mathlib.Core.Path.{◌≡◌, sym, ap, ◌∙◌}
use mathlib.Core.List.{List, [], ◌∷◌, ◌++◌, append-nil, append_assoc}
use Prim.Native.Nat.{ℕ}
use native.Mathlib.Omega.{arith}
use lib.ListN.{length, take}
use Rattle.pairs.specs.Cut.{longest_record}
use Rattle.door.specs.Contract.{reply_of}
use Rattle.std.specs.List.{FoldsTo}
use Rattle.pairs.specs.Cut.{Pair}
use Rattle.feed.specs.Feed.{Feed, blank, folded, zeros, held_room}
use Rattle.feed.specs.Parts.{fed, uncut}
use Rattle.feed.specs.Takes.{Takes as TakesPairs}
use Rattle.feed.proofs.Parts.{fed-more}
use Rattle.feed.proofs.Reading.{took}
use Rattle.feed.proofs.Taking.{feeds}
use Rattle.reading.specs.Parts.{Reads as ReadsParts}
use Rattle.streams.specs.declared.Stream.{Stream}
use Rattle.night.specs.declared.listing.State.{State}
use Rattle.night.specs.declared.listing.Reader.{Reader}
use Rattle.night.specs.listing.Tale.{Tale, untold, tells, tale_of, closing, written}
use Rattle.night.specs.listing.Contract.{tale_in, feed_with, step, Sends, Adds, Takes, Reads, Lists}
use Rattle.night.proofs.listing.Telling.{sends_none, sends_more}

-- ---- a part: its pairs one after the other

module _ (wanted : ℕ) where
  module _ (adds : State → Pair → State → Type 0)
      (by : (s : State) (pair : Pair) (s' : State) → adds s pair s' → Adds (λ (t : Tale). tells reply_of wanted t pair) s s') where
    adds-all : (s : State) (pairs : List Pair) (s' : State) → FoldsTo adds s pairs s'
        → Adds (λ (t : Tale). folded (tells reply_of wanted) t pairs) s s'
    unfolding folded
    adds-all s [] s' e = rw (← e) (record { more = []; after = λ text. rw append-nil; sent = sends_none s.out })
    adds-all s (pair ∷ pairs) s' f =
        let a = by s pair f.0 f.1 in
        let b = adds-all f.0 pairs s' f.2 in
        record {
          more = a.more ++ b.more;
          after = λ text.
              ap (λ (t : Tale). folded (tells reply_of wanted) t pairs) (a.after text)
              ∙ b.after (text ++ a.more)
              ∙ ap (tale_in s') (append_assoc text a.more b.more);
          sent = sends_more s.out a.more f.0.out b.more s'.out a.sent b.sent;
        }

    pub taken : {held : List ℕ} {rest : ℕ} {s : State} {part held' : List ℕ} {rest' : ℕ} {s' : State} → length held ≡ held_room
        → TakesPairs adds held rest s part held' rest' s'
        → Takes wanted (record { held = held; rest = rest; state = s }) part (record { held = held'; rest = rest'; state = s' })
    taken {held} {rest} {s} {part} {held'} {rest'} {s'} room t =
        let a = adds-all s _ s' t.added in
        record {
          more = a.more;
          after = λ text. rw (← a.after text) (feeds (tells reply_of wanted) adds room t (tale_in s text));
          sent = a.sent;
        }

  -- ---- parts one after the other

  takes_none : (r : Reader) → Takes wanted r [] r
  unfolding fed
  takes_none r = record { more = []; after = λ text. rw append-nil; sent = sends_none r.state.out }

  takes_more : (r r' r'' : Reader) (x y : List ℕ) → Takes wanted r x r' → Takes wanted r' y r'' → Takes wanted r (x ++ y) r''
  takes_more r r' r'' x y a b = record {
    more = a.more ++ b.more;
    after = λ text.
        ap (feed_with r'') (sym (append_assoc text a.more b.more)) ∙ b.after (text ++ a.more)
        ∙ ap (λ (s : Feed Tale). fed (step wanted) s y) (a.after text)
        ∙ sym (fed-more (step wanted) (feed_with r text) x y);
    sent = sends_more r.state.out a.more r'.state.out b.more r''.state.out a.sent b.sent;
  }

  module _ (takes : Reader → List ℕ → Reader → Type 0) (by : (r : Reader) (part : List ℕ) (r' : Reader) → takes r part r' → Takes wanted r part r')
    where
      takes-all : (r : Reader) (parts : List (List ℕ)) (r' : Reader) → FoldsTo takes r parts r' → Takes wanted r (uncut parts) r'
      unfolding uncut
      takes-all r [] r' e = rw (← e) (takes_none r)
      takes-all r (part ∷ parts) r' f = takes_more r f.0 r' part (uncut parts) (by r part f.0 f.1) (takes-all f.0 parts r' f.2)

      pub reads : {i : Stream} {r : Reader} {i' : Stream} {r' : Reader} → ReadsParts takes i r i' r' → Reads wanted i r i' r'
      reads {r = r} {r' = r'} p = record { bytes = uncut p.parts; went = p.went; takes = takes-all r p.parts r' p.taken }

-- ---- all of them, from nothing

abbrev pub begun : Stream → Reader
begun out = record { held = zeros held_room; rest = 0; state = record { calls = 0; offset = 0; differ = 0; out = out } }

module _ (wanted : ℕ) (input out i : Stream) (r : Reader) (p : Reads wanted input (begun out) i r) where
  whole_is : feed_with r p.takes.more ≡ tale_of reply_of wanted p.bytes
  unfolding tale_of blank
  whole_is = p.takes.after [] ∙ took longest_record (omega arith) (tells reply_of wanted) untold p.bytes

  pub told-all : (out' : Stream) → Sends r.state.out (closing wanted i.failed r.state.offset r.rest (take r.rest r.held)) out'
      → Lists wanted input out
      (record { input = i; out = out'; calls = r.state.calls; differ = r.state.differ; rest = r.rest })
  unfolding written
  told-all out' w = record {
    bytes = p.bytes;
    went = p.went;
    calls_is = ap (λ (s : Feed Tale). s.gathered.calls) whole_is;
    differ_is = ap (λ (s : Feed Tale). s.gathered.differ) whole_is;
    rest_is = ap (λ (s : Feed Tale). s.rest) whole_is;
    sent = rw (← whole_is) (sends_more out p.takes.more r.state.out _ out' p.takes.sent w);
  }
