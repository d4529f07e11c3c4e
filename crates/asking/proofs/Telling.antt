-- Laws of the answering of an input: what goes out for a line, a line that was cut out of a part, and parts one after the other.
-- Assumes nothing.
use mathlib.Core.Path.{◌≡◌, refl, sym, ap, ◌∙◌, subst}
use mathlib.Core.Bool.{Bool, true, false, cond}
use mathlib.Core.List.{List, [], ◌∷◌, ◌++◌, append-nil}
use Prim.Native.Nat.{ℕ, suc, ◌+◌, ◌-◌, ◌≤◌, ◌<◌}
use native.Mathlib.Omega.{arith}
use lib.Dec.{ltb, eqb}
use lib.ListN.{length, get_or, take, drop, set, length-append, length-take, length-set}
use lib.Seq.{sets, take_all, take-add}
use borrow.Author.Tests.{le-ltb, ltb-true}
use Rattle.spell.proofs.Writing.{front_read}
use Rattle.text.specs.words.Words.{is_blank}
use Rattle.text.specs.pieces.Kept.{kept_byte, Cut, cut_at}
use Rattle.feed.specs.Parts.{fed}
use Rattle.feed.proofs.Parts.{fed-more}
use Rattle.names.proofs.Naming.{front-taken}
use Rattle.names.specs.Names.{name_of, first_width, first_number, by_name}
use Rattle.asking.specs.answers.Answer.{answer_of, complaint_of}
use Rattle.asking.specs.answers.Contract.{enough, Takes}
use Rattle.asking.specs.declared.answers.lines.Taken.{Taken}
use Rattle.streams.specs.declared.Stream.{Stream}
use Rattle.streams.specs.Stream.{Through, through-none, through-more, Wrote, wrote_none, wrote-more}
use Rattle.asking.specs.Told.{Told, How, shown_by, blamed, keeping, line_ended, after, untold, told_of}
use Rattle.asking.specs.Asked.{Puts, Holds, Carries, Read, ending, Answered}
use Rattle.asking.specs.declared.State.{State}

-- ---- what goes out

module _ (how : How) (answers : List ℕ) (taken : Taken) (s : State) (o : Stream)
    (w : Wrote s.out (shown_by how.by_names (take taken.answer answers)) o) where
  pub puts-quiet : (complaints : List ℕ) → eqb (length (take taken.complaint complaints)) 0 ≡ true
      → Puts how answers complaints taken s (record { lines = taken.lines; out = o; err = s.err; wrong = s.wrong })
  unfolding blamed
  puts-quiet complaints e = record {
    lines_are = refl;
    answered = w;
    complained = rw e (wrote_none s.err);
    wrong_is = rw e;
  }

  pub puts-loud : (complaints : List ℕ) → eqb (length (take taken.complaint complaints)) 0 ≡ false → (e f : Stream)
      → Wrote s.err how.name e → Wrote e (take taken.complaint complaints) f
      → Puts how answers complaints taken s (record { lines = taken.lines; out = o; err = f; wrong = true })
  unfolding blamed
  puts-loud complaints some e f v x = record {
    lines_are = refl;
    answered = w;
    complained = rw some (wrote-more s.err how.name e (take taken.complaint complaints) f v x);
    wrong_is = rw some;
  }

-- an answer as it is wished
pub shown_by_lem : (by_names : Bool) (line : List ℕ) (to : Stream) (bytes : List ℕ) (r : Stream) → by_names ≡ true → bytes ≡ by_name line
    → Wrote to bytes r → Wrote to (shown_by by_names line) r
unfolding shown_by
shown_by_lem by_names line to bytes r t e w = rw t (rw e at w)

pub shown-plain : (by_names : Bool) (line : List ℕ) (to : Stream) (r : Stream) → by_names ≡ false → Wrote to line r
    → Wrote to (shown_by by_names line) r
unfolding shown_by
shown-plain by_names line to r t w = rw t w

shown-none : (by_names : Bool) → shown_by by_names [] ≡ []
unfolding shown_by by_name name_of first_number first_width
shown-none true = refl
shown-none false = refl

-- ---- a line cut out of a part

module _ (room : ℕ) (b : ℕ) where
  cut-newline : (l s : List ℕ) → eqb b 10 ≡ true → cut_at room l (b ∷ s) ≡ record { kept = l; read = 1; ended = true }
  unfolding cut_at
  cut-newline l s e = rw e

  cut-byte : (l s : List ℕ) → eqb b 10 ≡ false → let c = cut_at room (kept_byte room l b) s in
      cut_at room l (b ∷ s) ≡ record { kept = c.kept; read = suc c.read; ended = c.ended }
  unfolding cut_at
  cut-byte l s e = rw e

  after-newline : (how : How) (t : Told) → eqb b 10 ≡ true → after room how t b ≡ line_ended how t
  unfolding after
  after-newline how t e = rw e

  after-byte : (how : How) (t : Told) → eqb b 10 ≡ false → after room how t b ≡ keeping t (kept_byte room t.kept b)
  unfolding after
  after-byte how t e = rw e

module _ (room : ℕ) (how : How) where
  cut-cases : Cut → Told → Told
  cut-cases c t = cond c.ended (line_ended how (keeping t c.kept)) (keeping t c.kept)

  -- what a part's bytes up to the next newline tell, where so much of them was cut
  fed-cut : Told → List ℕ → Cut → Told
  fed-cut t s c = fed (after room how) t (take c.read s)

  cut-fed : (t : Told) (s : List ℕ) → fed-cut t s (cut_at room t.kept s) ≡ cut-cases (cut_at room t.kept s) t
  unfolding cut-cases fed-cut fed keeping cut_at
  cut-fed t [] = refl
  cut-fed t (b ∷ s) = by (eqb b 10) refl (cut-fed (keeping t (kept_byte room t.kept b)) s)
    where
      by : (e : Bool) → eqb b 10 ≡ e → (let u = keeping t (kept_byte room t.kept b) in
          fed-cut u s (cut_at room u.kept s) ≡ cut-cases (cut_at room u.kept s) u)
          → fed-cut t (b ∷ s) (cut_at room t.kept (b ∷ s)) ≡ cut-cases (cut_at room t.kept (b ∷ s)) t
      by true e more =
          let here = cut-newline room b t.kept s e in
          ap (fed-cut t (b ∷ s)) here ∙ after-newline room b how t e ∙ sym (ap (λ (c : Cut). cut-cases c t) here)
      by false e more =
          let here = cut-byte room b t.kept s e in
          let r = (cut_at room (kept_byte room t.kept b) s).read in
          ap (fed-cut t (b ∷ s)) here
          ∙ ap (λ (u : Told). fed (after room how) u (take r s)) (after-byte room b how t e)
          ∙ more
          ∙ sym (ap (λ (c : Cut). cut-cases c t) here)

byte_fits : (room : ℕ) (l : List ℕ) (b : ℕ) → length l ≤ room → length (kept_byte room l b) ≤ room
unfolding kept_byte
byte_fits room l b m = go (ltb (length l) room) (is_blank (get_or l (room - 1) 0)) refl
  where
    go : (x y : Bool) → ltb (length l) room ≡ x → length (cond x (l ++ b ∷ []) (cond y (set l (room - 1) b) l)) ≤ room
    go true y e = omega (arith, ltb-true (length l) room e, length-append l (b ∷ []))
    go false true e = omega (arith, length-set l (room - 1) b)
    go false false e = m

cut_fits : (room : ℕ) (l s : List ℕ) → length l ≤ room → length (cut_at room l s).kept ≤ room
unfolding cut_at
cut_fits room l [] m = m
cut_fits room l (b ∷ s) m = by (eqb b 10) refl (cut_fits room (kept_byte room l b) s (byte_fits room l b m))
  where
    by : (e : Bool) → eqb b 10 ≡ e → length (cut_at room (kept_byte room l b) s).kept ≤ room
        → length (cut_at room l (b ∷ s)).kept ≤ room
    by true e more = rw e m
    by false e more = rw e more

enough-is : (out err bytes : List ℕ) → 8192 ≤ length out → 8192 ≤ length err → enough out err bytes ≡ bytes
unfolding enough
enough-is out err bytes p q = rw (le-ltb _ _ p, le-ltb _ _ q)

module _ (part : List ℕ) (at : ℕ) (how : How) (line out err line' out' err' : List ℕ) (s s' : State) (r : Taken)
    (takes : Takes part at s.lines line out err line' out' err' r)
    (puts : Puts how out' err' r s s')
    (roomy : 8192 ≤ length out) (roomy' : 8192 ≤ length err) where
  private-cut : List ℕ → Cut
  private-cut kept = cut_at (length line) kept (drop at part)

  answer-is : (kept : List ℕ) (ended : Bool) → take s.lines.kept line ≡ kept → (private-cut kept).ended ≡ ended
      → take r.answer out' ≡ cond ended (answer_of (private-cut kept).kept) []
  unfolding private-cut
  answer-is kept true e f =
      front-taken _ out out' r.answer takes.says.answered takes.says.answer_fits
      ∙ rw (e, f) (enough-is out err _ roomy roomy')
  answer-is kept false e f =
      front-taken _ out out' r.answer takes.says.answered takes.says.answer_fits ∙ rw (e, f)

  complaint-is : (kept : List ℕ) (ended : Bool) → take s.lines.kept line ≡ kept → (private-cut kept).ended ≡ ended
      → take r.complaint err' ≡ cond ended (complaint_of s.lines.row (private-cut kept).kept) []
  unfolding private-cut
  complaint-is kept true e f =
      front-taken _ err err' r.complaint takes.says.complained takes.says.complaint_fits
      ∙ rw (e, f) (enough-is out err _ roomy roomy')
  complaint-is kept false e f =
      front-taken _ err err' r.complaint takes.says.complained takes.says.complaint_fits ∙ rw (e, f)

  -- what the part's bytes up to the next newline tell
  module _ (t : Told) (kept_is : take s.lines.kept line ≡ t.kept) where
    read_is : r.at - at ≡ (private-cut t.kept).read
    unfolding private-cut
    read_is = let next : r.at ≡ at + (private-cut t.kept).read = rw kept_is at takes.next in omega arith

    fed_is : (ended : Bool) → (private-cut t.kept).ended ≡ ended
        → fed (after (length line) how) t (take (r.at - at) (drop at part))
        ≡ cond ended (line_ended how (keeping t (private-cut t.kept).kept)) (keeping t (private-cut t.kept).kept)
    unfolding private-cut cut-cases fed-cut
    fed_is ended f = rw read_is (cut-fed (length line) how t (drop at part) ∙ rw f)

  turn_holds : (o e : Stream) (t : Told) → Holds o e t line s → (ended : Bool) → (private-cut t.kept).ended ≡ ended
      → Holds o e (fed (after (length line) how) t (take (r.at - at) (drop at part))) line' s'
  unfolding private-cut line_ended keeping
  turn_holds o e t h true f =
      let said = complaint-is t.kept true h.kept f in
      rw (fed_is t h.kept true f)
      (record {
        kept = rw (puts.lines_are, takes.kept, h.kept, f);
        row = rw (puts.lines_are, takes.row_is, h.kept, f, h.row);
        answers = wrote-more o t.answers s.out _ s'.out h.answers
            (rw (answer-is t.kept true h.kept f) at puts.answered);
        complaints = wrote-more e t.complaints s.err _ s'.err h.complaints (rw (said, h.row) at puts.complained);
        wrong = rw (said, h.row, h.wrong) at puts.wrong_is;
      })
  turn_holds o e t h false f =
      let said = complaint-is t.kept false h.kept f in
      let held : line' ≡ sets line 0 (private-cut t.kept).kept = rw h.kept at takes.holds in
      let small : length t.kept ≤ length line = rw (← h.kept) (simp length-take (omega arith)) in
      let size : s'.lines.kept ≡ length (private-cut t.kept).kept = rw (puts.lines_are, takes.kept, h.kept, f) in
      rw (fed_is t h.kept false f)
      (record {
        kept = rw (size, held) (front_read line _ (cut_fits (length line) t.kept (drop at part) small));
        row = rw (puts.lines_are, takes.row_is, h.kept, f) h.row;
        answers = rw append-nil at (wrote-more o t.answers s.out [] s'.out h.answers
            (rw (answer-is t.kept false h.kept f, shown-none how.by_names) at puts.answered));
        complaints = rw append-nil at (wrote-more e t.complaints s.err [] s'.err h.complaints
            (unfold blamed in (rw said at puts.complained)));
        wrong = rw (said, h.wrong) at puts.wrong_is;
      })

  pub turn-carries : Carries how (take (r.at - at) (drop at part)) line s line' s'
  turn-carries = record { carried = λ o e t h. turn_holds o e t h (private-cut t.kept).ended refl }

-- ---- one after the other

pub carries-none : (how : How) (line : List ℕ) (s : State) → Carries how [] line s line s
unfolding fed
carries-none how line s = record { carried = λ o e t h. h }

pub carries-more : (how : How) (a b line : List ℕ) (s : State) (line' : List ℕ) (s' : State) (line'' : List ℕ) (s'' : State)
    → length line' ≡ length line → Carries how a line s line' s' → Carries how b line' s' line'' s''
    → Carries how (a ++ b) line s line'' s''
carries-more how a b line s line' s' line'' s'' size p q = record {
  carried = λ o e t h. rw (fed-more (after (length line) how) t a b)
      (rw size at (q.carried o e (fed (after (length line) how) t a) (p.carried o e t h)));
}

-- a turn of the loop over a part
pub turn_more : (part : List ℕ) (at : ℕ) (how : How) (line₀ line out err line' out' err' : List ℕ) (s₀ s s' : State) (r : Taken)
    → at < r.at → length line ≡ length line₀ → Carries how (take at part) line₀ s₀ line s
    → Takes part at s.lines line out err line' out' err' r
    → Puts how out' err' r s s' → 8192 ≤ length out → 8192 ≤ length err
    → Carries how (take r.at part) line₀ s₀ line' s'
turn_more part at how line₀ line out err line' out' err' s₀ s s' r l size p takes puts roomy roomy' =
    let e : r.at ≡ at + (r.at - at) = omega arith in
    let turn = turn-carries part at how line out err line' out' err' s s' r takes puts roomy roomy' in
    subst (λ n. Carries how (take n part) line₀ s₀ line' s') (sym e)
    (rw (take-add at (r.at - at) part) (carries-more how _ _ line₀ s₀ line s line' s' size p turn))

pub part-over : (part : List ℕ) (at : ℕ) (how : How) (line : List ℕ) (s : State) (line' : List ℕ) (s' : State) → length part ≤ at
    → Carries how (take at part) line s line' s' → Carries how part line s line' s'
part-over part at how line s line' s' l p = rw (take_all at part l) at p

-- ---- what was read

pub read_none : (how : How) (line : List ℕ) (i : Stream) (s : State) → Read how line i s line i s
read_none how line i s = record { bytes = []; went = through-none i; carries = carries-none how line s }

pub read_one : (how : How) (line : List ℕ) (i : Stream) (s : State) (line' : List ℕ) (i' : Stream) (s' : State) (bytes : List ℕ)
    → Through i bytes i' → Carries how bytes line s line' s' → Read how line i s line' i' s'
read_one how line i s line' i' s' bytes t c = record { bytes = bytes; went = t; carries = c }

pub read_more : (how : How) (line : List ℕ) (i : Stream) (s : State) (line' : List ℕ) (i' : Stream) (s' : State) (line'' : List ℕ)
    (i'' : Stream) (s'' : State) → length line' ≡ length line → Read how line i s line' i' s' → Read how line' i' s' line'' i'' s''
    → Read how line i s line'' i'' s''
read_more how line i s line' i' s' line'' i'' s'' size p q = record {
  bytes = p.bytes ++ q.bytes;
  went = through-more i p.bytes i' q.bytes i'' p.went q.went;
  carries = carries-more how p.bytes q.bytes line s line' s' line'' s'' size p.carries q.carries;
}

-- ---- the whole input

abbrev pub begun : Stream → Stream → State
begun out err = record { lines = record { kept = 0; row = 1 }; out = out; err = err; wrong = false }

module _ (how : How) (line : List ℕ) (input out err : Stream) (line' : List ℕ) (i : Stream) (s : State)
    (p : Read how line input (begun out err) line' i s) (size : 4097 ≡ length line) (same : length line' ≡ length line) where
  all_told : (line'' : List ℕ) (s' : State) (ended : Bool) → Carries how (ending ended) line' s line'' s'
      → Holds out err (told_of how (p.bytes ++ ending ended)) line'' s'
  unfolding told_of
  all_told line'' s' ended c =
      let none : Holds out err untold line (begun out err) = record {
        kept = refl;
        row = refl;
        answers = wrote_none out;
        complaints = wrote_none err;
        wrong = refl;
      } in
      let all = carries-more how p.bytes (ending ended) line (begun out err) line' s line'' s' same p.carries c in
      rw (← size) at (all.carried out err untold none)

  pub answered : (line'' : List ℕ) (s' : State) (ended : Bool) → Carries how (ending ended) line' s line'' s'
      → (i.failed ≡ false → s'.out.failed ≡ false → ended ≡ true)
      → Answered how input out err
      (record { input = i; out = s'.out; err = s'.err; unreadable = s'.wrong; ended = ended })
  answered line'' s' ended c w =
      let t = all_told line'' s' ended c in
      record {
        bytes = p.bytes;
        went = p.went;
        answers = t.answers;
        complaints = t.complaints;
        unreadable = t.wrong;
        whole = w;
      }

pub last-newline : (how : How) (line : List ℕ) (s : State) (line' : List ℕ) (s' : State) → Carries how (10 ∷ []) line s line' s'
    → Carries how (ending true) line s line' s'
unfolding ending
last-newline how line s line' s' c = c

pub no-newline : (how : How) (line : List ℕ) (s : State) → Carries how (ending false) line s line s
unfolding ending
no-newline how line s = carries-none how line s
