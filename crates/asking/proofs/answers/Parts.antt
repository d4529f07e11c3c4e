-- Laws of the answers: the cases of a line, and a part that was cut. Assumes nothing.
use mathlib.Core.Path.{◌≡◌, refl, sym, ap, ◌∙◌}
use mathlib.Core.Logic.{⊎_elim}
use mathlib.Core.Bool.{Bool, true, false, cond}
use mathlib.Core.List.{List, []}
use Prim.Native.Nat.{ℕ, suc, ◌≤◌, ◌<◌}
use native.Mathlib.Omega.{arith}
use lib.Dec.{eqb}
use Rattle.std.proofs.Common.{Result, Ok, Err}
use lib.ListN.{length, get_or, take, drop}
use lib.Seq.{drop-cons}
use borrow.Author.Tests.{lt-ltb, le-ltb}
use Rattle.text.specs.words.Words.{next, every}
use Rattle.text.specs.declared.words.Cursor.{Cursor}
use Rattle.text.specs.pieces.Kept.{is_passed, is_text, Cut, cut_at, Cuts}
use Rattle.text.proofs.pieces.Keeping.{kept_whole}
use Rattle.text.specs.declared.pieces.Piece.{Piece}
use Rattle.text.specs.kinds.Kinds.{longest_line, overlong, begun, is_kind, opened}
use Rattle.text.specs.kinds.Read.{Replies}
use Rattle.text.proofs.kinds.Owed.{overlong-unnamed, named-short}
use Rattle.text.specs.Line.{request}
use Rattle.text.proofs.Readers.{said-overlong}
use Rattle.spell.specs.Decimal.{Front}
use Rattle.spell.proofs.Writing.{front_read, written-front}
use Rattle.text.specs.tell.Tell.{unreadable, complaint}
use Rattle.asking.specs.tick_line.Line.{tick_word}
use Rattle.asking.specs.tick_line.Line as ticks
use Rattle.asking.specs.patch_line.Line.{patch_word}
use Rattle.asking.specs.patch_line.Line as patches
use Rattle.asking.specs.reply.Reply.{spoken_as, spoken}
use Rattle.asking.specs.answers.Answer.{spoken_of, answer_of, complaint_of}
use Rattle.asking.specs.answers.Contract.{Says, enough, behind_line, Takes}
use Rattle.asking.specs.declared.answers.lines.Lines.{Lines}
use Rattle.asking.specs.declared.answers.lines.Taken.{Taken}

-- the first word was tested: a tick line, a patch line, or a ride
module _ (line : List ℕ) (o w : Cursor) (begin : o ≡ begun line) (first : w ≡ next line o) where
  is-opened : w ≡ opened line
  unfolding opened
  is-opened = first ∙ ap (next line) begin

  is-named : (name : List ℕ) (r : Bool) → r ≡ is_kind line w name → is_kind line (opened line) name ≡ r
  is-named name r kind = ap (λ c. is_kind line c name) (sym is-opened) ∙ sym kind

  pub named-fits : (name : List ℕ) (r : Bool) → r ≡ is_kind line w name → r ≡ true → length line ≤ longest_line
  named-fits name r kind t = named-short line name (is-named name r kind ∙ t)

  module _ (out out' : List ℕ) (x : Result ℕ Cursor) (r : Bool) (tick : r ≡ is_kind line w tick_word) where
    pub replies-tick : r ≡ true → Replies (ticks.spoken line w) line out out' x → Replies (spoken_of line) line out out' x
    unfolding spoken_of
    replies-tick t s = rw (is-named tick_word r tick, t, ← is-opened) s

    module _ (f : r ≡ false) (q : Bool) (patch : q ≡ is_kind line w patch_word) where
      pub replies-patch : q ≡ true → Replies (patches.spoken line w) line out out' x → Replies (spoken_of line) line out out' x
      unfolding spoken_of
      replies-patch t s = rw (is-named tick_word r tick, f, is-named patch_word q patch, t, ← is-opened) s

      pub replies-ride : q ≡ false → Replies (spoken line) line out out' x → Replies (spoken_of line) line out out' x
      unfolding spoken_of
      replies-ride g s = rw (is-named tick_word r tick, f, is-named patch_word q patch, g) s

-- nothing was written
none : (l : List ℕ) → Front [] l l 0
none l = record { ends = refl; holds = refl }

silent : (out err : List ℕ) → Says [] [] out err out err 0 0
silent out err = record { answered = none out; complained = none err; answer_fits = omega arith; complaint_fits = omega arith }

-- a line that is passed over, one that cannot be read, and one that says something
module _ (line : List ℕ) (row : ℕ) (out err : List ℕ) where
  pub says-passed : true ≡ is_passed line → Says (answer_of line) (complaint_of row line) out err out err 0 0
  unfolding answer_of complaint_of
  says-passed t = rw (← t) (silent out err)

  module _ (p : false ≡ is_passed line) (between : List ℕ) (large : 4096 ≤ length out) where
    pub says-wrong : (c : Cursor) → Replies (spoken_of line) line out between (Err c) → (out' err' : List ℕ) (m n : ℕ) → m ≤ length out
        → n ≤ length err → Front unreadable between out' m
        → Front (complaint row line c) err err' n
        → Says (answer_of line) (complaint_of row line) out err out' err' m n
    unfolding answer_of complaint_of
    says-wrong c is out' err' m n k l a b =
        rw (← p, is.said.0)
        (record { answered = rw is.said.2 at a; complained = rw is.said.1 at b; answer_fits = k; complaint_fits = l })

    pub says-right : (end : ℕ) → Replies (spoken_of line) line out between (Ok end) → Says (answer_of line) (complaint_of row line) out err between err end 0
    unfolding answer_of complaint_of
    says-right end is =
        let wrote = is.said.1 in
        rw (← p, is.said.0) (record {
          answered = written-front _ _ _ _ _ wrote;
          complained = none err;
          answer_fits = omega (arith, wrote.small);
          complaint_fits = omega arith;
        })

-- too little room, and enough
module _ (a b out err : List ℕ) where
  pub says_nothing : length out < 8192 → Says (enough out err a) (enough out err b) out err out err 0 0
  unfolding enough
  says_nothing l = rw (lt-ltb _ _ l) (silent out err)

  pub says-nothing-either : 8192 ≤ length out → length err < 8192 → Says (enough out err a) (enough out err b) out err out err 0 0
  unfolding enough
  says-nothing-either m l = rw (le-ltb _ _ m, lt-ltb _ _ l) (silent out err)

  pub says_all : 8192 ≤ length out → 8192 ≤ length err → (out' err' : List ℕ) (m n : ℕ) → Says a b out err out' err' m n
      → Says (enough out err a) (enough out err b) out err out' err' m n
  unfolding enough
  says_all k l out' err' m n s = rw (le-ltb _ _ k, le-ltb _ _ l) s

-- a part that was cut: no line has ended in it, or one has, and was answered
module _ (part : List ℕ) (at : ℕ) (l : Lines) (line out err line' : List ℕ) (p : Piece)
    (is : Cuts part at line l.kept line' p) where
  pub takes-more : p.ended ≡ false
      → Takes part at l line out err line' out err (record {
        at = p.at;
        lines = record { kept = p.kept; row = l.row };
        answer = 0;
        complaint = 0;
      })
  takes-more f = record {
    next = is.next;
    kept = rw (← is.ended, f) is.keeps.ends;
    row_is = rw (← is.ended, f);
    holds = is.keeps.holds;
    says = rw (← is.ended, f) (silent out err);
  }

  -- what is kept is read from the front of the array
  kept_read : take p.kept line' ≡ (cut_at (length line) (take l.kept line) (drop at part)).kept
  kept_read = rw (is.keeps.holds, is.keeps.ends) (front_read line _ (omega (arith, is.fits, is.keeps.ends)))

  pub takes-line : p.ended ≡ true → (out' err' : List ℕ) (m n : ℕ) (r : Taken) → r ≡ behind_line p.at l.row m n
      → Says (enough out err (answer_of (take p.kept line'))) (enough out err (complaint_of l.row
      (take p.kept line'))) out err out' err' m n
      → Takes part at l line out err line' out' err' r
  unfolding behind_line
  takes-line t out' err' m n r e s = rw e (record {
    next = is.next;
    kept = rw (← is.ended, t);
    row_is = rw (← is.ended, t);
    holds = is.keeps.holds;
    says = rw (← is.ended, t, ← kept_read) s;
  })

-- a byte more is read where there is one
pub takes-further : (part : List ℕ) (at : ℕ) (l : Lines) (line out err line' out' err' : List ℕ) (r : Taken)
    → Takes part at l line out err line' out' err' r → at < length part → at < r.at
unfolding cut_at
takes-further part at l line out err line' out' err' r t h = omega (arith, t.next, one)
  where
    go : (b : Bool) (k : List ℕ) (c : Cut) → 0 < (cond {A = Cut} b (record { kept = k; read = 1; ended = true })
        (record { kept = c.kept; read = suc c.read; ended = c.ended })).read
    go true k c = omega arith
    go false k c = omega arith

    one : 0 < (cut_at (length line) (take l.kept line) (drop at part)).read
    one = rw (drop-cons part at 0 h) (go (eqb (get_or part at 0) 10) _ _)

-- a line of any length says what is kept of it
spoken-overlong : (line : List ℕ) → longest_line < length line → spoken_of line ≡ spoken_as (request [] overlong)
unfolding spoken_of spoken
spoken-overlong line l = rw (overlong-unnamed line l tick_word, overlong-unnamed line l patch_word) (ap spoken_as (said-overlong line l))

pub kept-says : (s : List ℕ) → every is_text s ≡ true → spoken_of (cut_at 4097 [] s).kept ≡ spoken_of s
kept-says s t =
    ⊎_elim (λ e. ap spoken_of e) (λ w. spoken-overlong _ w.0 ∙ sym (spoken-overlong _ w.1)) (kept_whole s t)
