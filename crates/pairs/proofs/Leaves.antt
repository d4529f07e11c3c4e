-- A whole pair starts where the count of its bytes is not 0. Assumes nothing.
use mathlib.Core.Path.{◌≡◌, refl}
use mathlib.Core.Bool.{Bool, true, false, not}
use mathlib.Core.List.{List}
use Prim.Native.Nat.{ℕ}
use native.Mathlib.Omega.{arith}
use lib.Dec.{eqb}
use borrow.Author.Tests.{eq-eqb, ne_eqb}
use Rattle.pairs.specs.Cut.{starts_pair, pair_size}
use Rattle.pairs.proofs.Cutting.{whole_pair, size-some, size_none}

pub starts_is : (most : ℕ) (bytes : List ℕ) → not (eqb (pair_size most bytes) 0) ≡ starts_pair most bytes
starts_is most bytes = by (starts_pair most bytes) refl
  where
    by : (t : Bool) → starts_pair most bytes ≡ t → not (eqb (pair_size most bytes) 0) ≡ starts_pair most bytes
    by true e = rw (
      ne_eqb (pair_size most bytes) 0 (λ (z : pair_size most bytes ≡ 0). omega
          (arith, z, size-some most bytes e, (whole_pair most bytes e).0.least)),
      e,
    )
    by false e = rw (eq-eqb (pair_size most bytes) 0 (size_none most bytes e), e)
