-- What a line says is fixed: any two results that the contract allows are equal. Assumes nothing.
use mathlib.Core.List.{List}
use Prim.Native.Nat.{ℕ}
use lib.IntN.{ℤ}
use Rattle.whole.proofs.Determined.{Determined}
use Rattle.text.specs.Read.{ReadsLine}
use Rattle.text.specs.declared.Reading.{Reading}

-- of `read_line`: what it answers, and both arrays
pub line-determined : (line : List ℕ) (surface path : List ℤ)
    → Determined (λ (r : Reading × List ℤ × List ℤ). ReadsLine line surface path r.1 r.2 r.0)
line-determined line surface path = record {
  value = (record { cursor = _; head = _; surface = _; path = _; rooms = _; age = _ }, _, _);
  only = λ r e t. (
    record {
      cursor = e.cursor t;
      head = e.head t;
      surface = e.surface_count t;
      path = e.path_count t;
      rooms = e.rooms t;
      age = e.age t;
    },
    e.surface_is t,
    e.path_is t,
  );
}
