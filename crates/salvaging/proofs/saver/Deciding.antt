-- Laws of one decision: how many bytes are kept here, if any. Assumes nothing.
use mathlib.Core.Path.{◌≡◌, refl, sym, ap, ◌∙◌}
use mathlib.Core.Bool.{Bool, true, false, not, ◌&&◌, ◌||◌}
use mathlib.Core.List.{List}
use Prim.Native.Nat.{ℕ}
use lib.Dec.{eqb}
use borrow.Author.Tests.{eq-eqb}
use Rattle.std.specs.Prelude.{Some, None}
use Rattle.wire.specs.Start.{kind_field, record_in}
use Rattle.pairs.specs.Cut.{pair_in, pair_size}
use Rattle.pairs.proofs.Leaves.{starts_is}
use Rattle.fives.specs.Replay.{agrees}
use Rattle.torn.specs.Salvage.{of_kind, answered, good}
use Rattle.salvaging.specs.saver.Ahead.{kept_size}

module _ (most : ℕ) (door : List ℕ → List ℕ) (bytes : List ℕ) where
  -- what is tested, one after the other
  pub good_by : (n : ℕ) → n ≡ pair_size most bytes → (request : List ℕ) → request ≡ record_in bytes
      → good most door bytes ≡ (not (eqb n 0) && ((eqb (kind_field request) 1 || eqb (kind_field request) 2) && agrees door (pair_in bytes)))
  unfolding good answered of_kind pair_in
  good_by n is request q = rw (is, q) (ap (λ (t : Bool). t && answered door (pair_in bytes)) (sym (starts_is most bytes)))

  -- no pair is here
  pub good_unlike : (n : ℕ) → n ≡ pair_size most bytes → n ≡ 0 → good most door bytes ≡ false
  good_unlike n is z = good_by n is (record_in bytes) refl ∙ rw (eq-eqb n 0 z)

  pub kept_some : (n : ℕ) → n ≡ pair_size most bytes → good most door bytes ≡ true → Some n ≡ kept_size most door bytes
  unfolding kept_size
  kept_some n is e = rw (e, is)

  pub kept_none : good most door bytes ≡ false → None ≡ kept_size most door bytes
  unfolding kept_size
  kept_none e = rw e

  -- and back
  pub none_good : None ≡ kept_size most door bytes → good most door bytes ≡ false
  unfolding kept_size
  none_good e = by (good most door bytes) refl
    where
      by : (t : Bool) → good most door bytes ≡ t → t ≡ false
      by true g = let never : None ≡ Some (pair_size most bytes) = rw g at e in cc
      by false g = refl

  pub some_good : (n : ℕ) → Some n ≡ kept_size most door bytes → (good most door bytes ≡ true) × (n ≡ pair_size most bytes)
  unfolding kept_size
  some_good n e = by (good most door bytes) refl
    where
      by : (t : Bool) → good most door bytes ≡ t → (good most door bytes ≡ true) × (n ≡ pair_size most bytes)
      by true g = (g, (let same : Some n ≡ Some (pair_size most bytes) = rw g at e in cc))
      by false g = let never : Some n ≡ None = rw g at e in cc
