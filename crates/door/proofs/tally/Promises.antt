-- What the contracts promise: each leaves no choice; parts one after the other make the reader that the uncut trace makes;
-- and its five numbers are those of the whole trace. Assumes nothing.
use mathlib.Core.Path.{◌≡◌, ap, ◌∙◌}
use mathlib.Core.List.{List}
use Prim.Native.Nat.{ℕ}
use Rattle.whole.proofs.Determined.{Determined}
use Rattle.feed.specs.Parts.{uncut, after_all}
use Rattle.fives.specs.declared.Five.{Five}
use Rattle.door.specs.declared.tally.Reader.{Reader}
use Rattle.door.specs.tally.Read.{blank_reader, after_part, five_in, replayed}
use Rattle.door.proofs.tally.Reading.{numbers_of, reader-of-parts}

-- ---- the contracts fix their results

pub new-determined : Determined (λ (r : Reader). r ≡ blank_reader)
new-determined = record { value = _; only = λ r e. e }

pub take-determined : (reader : Reader) (part : List ℕ) → Determined (λ (r : Reader). r ≡ after_part reader part)
take-determined reader part = record { value = _; only = λ r e. e }

pub finish-determined : (reader : Reader) → Determined (λ (r : Five). r ≡ five_in reader)
finish-determined reader = record { value = _; only = λ r e. e }

pub replay-determined : (bytes : List ℕ) → Determined (λ (r : Five). r ≡ replayed bytes)
replay-determined bytes = record { value = _; only = λ r e. e }

-- ---- parts and the whole

-- "after the last, state and sheet are those of the uncut trace": the state
pub same-reader : (parts : List (List ℕ)) → after_all after_part blank_reader parts ≡ after_part blank_reader (uncut parts)
same-reader parts = reader-of-parts parts

-- and the five numbers
pub five-of-parts : (parts : List (List ℕ)) → five_in (after_all after_part blank_reader parts) ≡ replayed (uncut parts)
five-of-parts parts = ap five_in (reader-of-parts parts) ∙ numbers_of (uncut parts)
