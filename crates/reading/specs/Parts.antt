-- What the reading of an input promises of the bytes that were read, whatever they are: over any state that takes a part, the state
-- has taken them, part after part. Assumes nothing.
use Rattle.std.specs.Prelude.{◌≡◌, true, false, List, ℕ}
use Rattle.std.specs.List.{FoldsTo}
use Rattle.std.specs.Fn.{Shared}
use denote.Ref.{Bor}
use Rattle.feed.specs.Parts.{uncut, after_all}
use Rattle.streams.specs.declared.Stream.{Stream}
use Rattle.streams.specs.Stream.{Through, Wrote}

-- a call at a state and a part may give this
pub record TakenAt {F S : Type 0} (g : Shared F (S × (Bor (List ℕ) × Unit {0})) S) (f : F) (s : S) (part : List ℕ) (s' : S) : Type 0 where
  pub shown : Bor (List ℕ)
  pub shows : shown.now ≡ part
  pub met : g.post f (s, (shown, tt)) s'

-- just these parts were read from an input, and the state took them, one after the other
pub record Reads {S : Type 0} (takes : S → List ℕ → S → Type 0) (from : Stream) (s : S) (from' : Stream) (s' : S) : Type 0 where
  pub parts : List (List ℕ)
  pub went : Through from (uncut parts) from'
  pub taken : FoldsTo takes s parts s'

-- just these parts were read from an input, and the state took them
pub record Took {S : Type 0} (step : S → List ℕ → S) (from : Stream) (s : S) (from' : Stream) (s' : S) : Type 0 where
  pub parts : List (List ℕ)
  pub went : Through from (uncut parts) from'
  pub after : s' ≡ after_all step s parts

-- an answer to all bytes that were read, and its lines; where a read failed nothing was written
pub record Tells {A : Type 0} (of : List ℕ → A) (lines : A → List ℕ) (input out input' out' : Stream) (answer : A) : Type 0 where
  pub bytes : List ℕ
  pub went : Through input bytes input'
  pub is : answer ≡ of bytes
  pub told : input'.failed ≡ false → Wrote out (lines (of bytes)) out'
  pub none : input'.failed ≡ true → out' ≡ out
