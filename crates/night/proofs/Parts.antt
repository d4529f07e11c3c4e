-- Laws of a night's reading: its numbers and lines, once it is read. Assumes nothing.
use mathlib.Core.Path.{◌≡◌, refl, sym, ap, ◌∙◌}
use mathlib.Core.Bool.{true, false, false≢true}
use mathlib.Core.List.{List}
use Prim.Native.Nat.{ℕ, ◌≤◌}
use lib.ListN.{length, take}
use Rattle.spell.proofs.Writing.{told-front}
use Rattle.feed.specs.Parts.{uncut, after_all}
use Rattle.fives.specs.declared.Five.{Five}
use Rattle.door.specs.declared.tally.Reader.{Reader}
use Rattle.door.specs.tally.Read.{replayed}
use Rattle.door.specs.tally.Read.{after_part, blank_reader, five_in}
use Rattle.fives.specs.Lines.{five_lines, Told}
use Rattle.door.proofs.tally.Promises.{five-of-parts}
use Rattle.streams.specs.declared.Stream.{Stream}
use Rattle.streams.specs.Stream.{Wrote}
use Rattle.reading.specs.Parts.{Took}
use Rattle.night.specs.Reading.{Replays}

module _ (input : Stream) (first : Reader) (i : Stream) (reader : Reader) (five : Five) (begins : first ≡ blank_reader)
    (took : Took after_part input first i reader) (ends : five ≡ five_in reader) where
  numbers : five ≡ replayed (uncut took.parts)
  numbers = ends ∙ ap five_in (took.after ∙ ap (λ (r : Reader). after_all after_part r took.parts) begins) ∙ five-of-parts took.parts

  -- a read failed, or the lines are written
  pub failed : (out : Stream) → i.failed ≡ true → Replays input out (record { input = i; out = out; five = five })
  failed out f = record {
    bytes = uncut took.parts;
    went = took.went;
    numbers = numbers;
    lines = λ e. absurd (false≢true (sym e ∙ f));
    none = λ e. refl;
  }

  -- the lines as they were put into a buffer
  lines_are : (l l' : List ℕ) (n : ℕ) → 134 ≤ length l → Told five l n l' → take n l' ≡ five_lines (replayed (uncut took.parts))
  lines_are l l' n enough t = told-front _ _ _ _ _ enough t ∙ ap five_lines numbers

  pub written : (out o : Stream) (l l' : List ℕ) (n : ℕ) → i.failed ≡ false → 134 ≤ length l → Told five l n l'
      → Wrote out (take n l') o → Replays input out (record { input = i; out = o; five = five })
  written out o l l' n f enough t w = record {
    bytes = uncut took.parts;
    went = took.went;
    numbers = numbers;
    lines = λ e. rw (lines_are l l' n enough t) at w;
    none = λ e. absurd (false≢true (sym f ∙ e));
  }
