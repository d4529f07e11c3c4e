-- One place more of each array is written. Assumes nothing.
use mathlib.Core.Path.{◌≡◌, refl, sym, ap, ◌∙◌}
use mathlib.Core.List.{List}
use Prim.Native.Nat.{ℕ, ◌+◌, ◌≤◌, ◌<◌}
use native.Mathlib.Omega.{arith}
use lib.IntN.{ℤ}
use lib.ListN.{length, set}
use Rattle.lists.specs.Lists.{afterwards}
use Rattle.compose.specs.writing.Arrays.{Arrays}
use Rattle.compose.specs.writing.Placed.{Enough, Put, Wrote}
use Rattle.lists.proofs.Written.{afterwards-none, afterwards-more, afterwards-length}

-- each array is as long as it was
pub record SameLengths (lent left : Arrays) : Type 0 where
  pub high : length left.high ≡ length lent.high
  pub low : length left.low ≡ length lent.low
  pub points : length left.points ≡ length lent.points

-- nothing is written yet
pub wrote_none : (sums : List ℤ) (L r : ℕ) (lent : Arrays) → Wrote sums L r 0 lent lent
wrote_none sums L r lent = record {
  high_is = sym (afterwards-none _ lent.high);
  low_is = sym (afterwards-none _ lent.low);
  points_is = sym (afterwards-none _ lent.points);
}

module _ (sums : List ℤ) (L r count : ℕ) (lent : Arrays) (room : Enough lent count) (R : ℕ) (left : Arrays) (wrote : Wrote sums L r R lent left) where
  pub same-lengths : R ≤ count → SameLengths lent left
  same-lengths m = record {
    high = ap length wrote.high_is ∙ afterwards-length R _ lent.high (let h = room.high in omega arith);
    low = ap length wrote.low_is ∙ afterwards-length R _ lent.low (let h = room.low in omega arith);
    points = ap length wrote.points_is ∙ afterwards-length R _ lent.points (let h = room.points in omega arith);
  }

  pub still-enough : R ≤ count → Enough left count
  still-enough m =
      let s = same-lengths m in
      record {
        high = rw s.high room.high;
        low = rw s.low room.low;
        points = rw s.points room.points;
      }

  -- what stands at R is written too
  pub wrote-more : R < count → (next : Arrays) → Put sums L r R left next → Wrote sums L r (R + 1) lent next
  wrote-more m next put = record {
    high_is = put.high_is ∙ more _ lent.high wrote.high_is (let h = room.high in omega arith);
    low_is = put.low_is ∙ more _ lent.low wrote.low_is (let h = room.low in omega arith);
    points_is = put.points_is ∙ more _ lent.points wrote.points_is (let h = room.points in omega arith);
  }
    where
      more : {A : Type 0} (f : ℕ → A) (l : List A) {now : List A} → now ≡ afterwards R f l → R < length l → set now R (f R) ≡ afterwards (R + 1) f l
      more {A} f l {now} e m = ap (λ x. set x R (f R)) e ∙ afterwards-more R f l (f R) m refl
