-- What carrying a night through the converter promises of the bytes that were read, whatever they are: just these were taken, part
-- after part, and what they put out was written where that is wanted, and nothing where it is not; and what is told is that of all
-- of them. Assumes nothing.
use Rattle.std.specs.Prelude.{◌≡◌, Bool, true, false, List, ℕ}
use Rattle.feed.specs.Feed.{capped}
use Rattle.feed.specs.Parts.{uncut, after_all}
use Rattle.streams.specs.declared.Stream.{Stream}
use Rattle.streams.specs.Stream.{Through, Wrote}
use Rattle.renewal.specs.declared.converter.Converter.{Converter}
use Rattle.aging.specs.Convert.{converted, changed, refuses}
use Rattle.renewal.specs.converter.Put.{after_part, put_parts}
use Rattle.renewal.specs.declared.Outcome.{Outcome}

pub record Carries (wanted : Bool) (input out : Stream) (first : Converter) (input' out' : Stream) (last : Converter) : Type 0 where
  pub parts : List (List ℕ)
  pub went : Through input (uncut parts) input'
  pub after : last ≡ after_all after_part first parts
  pub wrote : wanted ≡ true → Wrote out (put_parts first parts) out'
  pub stayed : wanted ≡ false → out' ≡ out

-- a night that was looked through: "no byte of trace" went to the output
pub record Looks (input out : Stream) (r : Outcome) : Type 0 where
  pub bytes : List ℕ
  pub went : Through input bytes r.input
  pub stayed : r.out ≡ out
  pub refused_is : r.refused ≡ refuses bytes
  pub changed_is : r.changed ≡ capped (changed bytes)

-- a night that was converted: the converted trace of the bytes that were read went to the output, where no write failed
pub record Renews (input out : Stream) (r : Outcome) : Type 0 where
  pub bytes : List ℕ
  pub went : Through input bytes r.input
  pub wrote : Wrote out (converted bytes) r.out
  pub refused_is : r.refused ≡ refuses bytes
  pub changed_is : r.changed ≡ capped (changed bytes)
