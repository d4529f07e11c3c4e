-- What the answering of an input promises, whatever was read: what was written is what is told of what was read. Assumes
-- nothing.
use Rattle.std.specs.Prelude.{◌≡◌, Bool, true, false, cond, List, [], ◌∷◌, ◌++◌, ℕ, eqb, length, take}
use Rattle.feed.specs.Parts.{fed}
use Rattle.asking.specs.declared.answers.lines.Taken.{Taken}
use Rattle.streams.specs.Stream.{Through, Wrote}
use Rattle.streams.specs.declared.Stream.{Stream}
use Rattle.asking.specs.Told.{Told, How, shown_by, blamed, after, told_of}
use Rattle.asking.specs.declared.State.{State}
use Rattle.asking.specs.declared.Asked.{Asked}

-- an answer and a complaint, at the fronts of two buffers, went out
pub record Puts (how : How) (answers complaints : List ℕ) (taken : Taken) (s s' : State) : Type 0 where
  pub lines_are : s'.lines ≡ taken.lines
  pub answered : Wrote s.out (shown_by how.by_names (take taken.answer answers)) s'.out
  pub complained : Wrote s.err (blamed how.name (take taken.complaint complaints)) s'.err
  pub wrong_is : s'.wrong ≡ cond (eqb (length (take taken.complaint complaints)) 0) s.wrong true

-- a state has told t, since the outputs were as given; its line is kept at the front of a buffer
pub record Holds (out err : Stream) (t : Told) (line : List ℕ) (s : State) : Type 0 where
  pub kept : take s.lines.kept line ≡ t.kept
  pub row : s.lines.row ≡ t.row
  pub answers : Wrote out t.answers s.out
  pub complaints : Wrote err t.complaints s.err
  pub wrong : s.wrong ≡ t.unreadable

-- from one state to another, just what is told of these bytes was told
pub record Carries (how : How) (bytes line : List ℕ) (s : State) (line' : List ℕ) (s' : State) : Type 0 where
  pub carried : (out err : Stream) (t : Told) → Holds out err t line s
      → Holds out err (fed (after (length line) how) t bytes) line' s'

-- and just these bytes were read
pub record Read (how : How) (line : List ℕ) (input : Stream) (s : State) (line' : List ℕ) (input' : Stream) (s' : State) : Type 0 where
  pub bytes : List ℕ
  pub went : Through input bytes input'
  pub carries : Carries how bytes line s line' s'

-- the newline that ends an input's last line
unfoldable pub ending : Bool → List ℕ
ending ended = cond ended (10 ∷ []) []

-- what was written is what is told of the bytes that were read, and of the line's end where the input ended; it did where no
-- read and no write failed
pub record Answered (how : How) (input out err : Stream) (r : Asked) : Type 0 where
  pub bytes : List ℕ
  pub went : Through input bytes r.input
  pub answers : Wrote out (told_of how (bytes ++ ending r.ended)).answers r.out
  pub complaints : Wrote err (told_of how (bytes ++ ending r.ended)).complaints r.err
  pub unreadable : r.unreadable ≡ (told_of how (bytes ++ ending r.ended)).unreadable
  pub whole : r.input.failed ≡ false → r.out.failed ≡ false → r.ended ≡ true
