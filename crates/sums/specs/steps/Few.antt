-- Few numbers, read as the front of a net. Assumes nothing.
use Rattle.std.specs.Prelude.{List, [], ◌∷◌, ℤ}
use Rattle.sums.specs.declared.steps.Two.{Two}
use Rattle.sums.specs.declared.steps.Four.{Four}
use Rattle.sums.specs.declared.steps.Three.{Three}
use Rattle.sums.specs.declared.steps.Six.{Six}

abbrev pub in_two : Two → List ℤ
in_two q = q.a.0 ∷ q.b.0 ∷ []

abbrev pub in_four : Four → List ℤ
in_four q = q.a.0 ∷ q.b.0 ∷ q.c.0 ∷ q.d.0 ∷ []

abbrev pub in_three : Three → List ℤ
in_three q = q.a.0 ∷ q.b.0 ∷ q.c.0 ∷ []

abbrev pub in_six : Six → List ℤ
in_six q = q.a.0 ∷ q.b.0 ∷ q.c.0 ∷ q.d.0 ∷ q.e.0 ∷ q.f.0 ∷ []
