-- The contract of `lean_convert`: the converter in two lent arrays, before a part and after it. Assumes nothing.
use Rattle.std.specs.Prelude.{◌≡◌, cond, List, [], ◌∷◌, ℕ, length, get_or}
use Rattle.std.proofs.lemmas.List.Edits.{sets}
use Rattle.renewal.specs.declared.converter.Converter.{Converter}
use Rattle.aging.specs.Convert.{ends_long}
use Rattle.renewal.specs.converter.Put.{feed_of, front, after_part, put_all}

-- what the arrays hold: the first word has the rest, the second how many requests were changed
unfoldable pub converter_in : List ℕ → List ℕ → Converter
converter_in held words = record { held = held; rest = get_or words 0 0; changed = get_or words 1 0 }

-- the words behind a part of which so many bytes were taken, and so many put out
unfoldable pub words_of : Converter → ℕ → ℕ → List ℕ
words_of converter taken count =
    converter.rest ∷ converter.changed ∷ taken ∷ count ∷ cond (ends_long (feed_of converter).kept) 1 0 ∷ []

-- the arrays behind these bytes, and the buffer with what they put out
pub record Holds (converter : Converter) (bytes out held words out' : List ℕ) : Type 0 where
  pub held_is : held ≡ (after_part converter bytes).held
  pub words_is : words ≡ words_of (after_part converter bytes) (length bytes) (length (put_all (feed_of converter) bytes))
  pub out_is : out' ≡ sets out 0 (put_all (feed_of converter) bytes)

abbrev pub Converts : List ℕ → List ℕ → List ℕ → List ℕ → List ℕ → List ℕ → List ℕ → Type 0
Converts held words part out = Holds (converter_in held words) (front part out) out
