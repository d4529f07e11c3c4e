-- The arrays that hold a converter. Assumes nothing.
use mathlib.Core.Path.{◌≡◌, ap, ◌∙◌}
use mathlib.Core.Bool.{Bool, true, false}
use mathlib.Core.List.{List, [], ◌∷◌}
use Prim.Native.Nat.{ℕ}
use mir.Val.{bool_byte}
use Rattle.renewal.specs.declared.converter.Converter.{Converter}
use Rattle.renewal.specs.declared.converter.Taken.{Taken}
use Rattle.aging.specs.Convert.{ends_long}
use Rattle.renewal.specs.converter.Put.{feed_of, Fills}
use Rattle.lean_convert.specs.Converts.{words_of, Holds}

pub words_are : (converter : Converter) (taken count flag : ℕ) (refused : Bool) → refused ≡ ends_long (feed_of converter).kept
    → flag ≡ bool_byte refused → converter.rest ∷ converter.changed ∷ taken ∷ count ∷ flag ∷ [] ≡ words_of converter taken count
unfolding words_of
words_are converter taken count flag true e f = rw (f, ← e)
words_are converter taken count flag false e f = rw (f, ← e)

pub held_in : {before converter : Converter} {bytes out held words out' : List ℕ} {r : Taken} → before ≡ converter
    → Fills before bytes out r out' → held ≡ r.converter.held → words ≡ words_of r.converter r.bytes r.count
    → Holds converter bytes out held words out'
held_in same fills h w =
    rw (← same)
    (record {
      held_is = h ∙ ap (λ (c : Converter). c.held) fills.converter_is;
      words_is = rw (w, fills.converter_is, fills.taken, fills.counted);
      out_is = fills.written;
    })
