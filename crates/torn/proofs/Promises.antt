-- What ticket 13 (rule Salvage) demands of the salvage, over any door and any greatest length of a record. Assumes nothing.
use mathlib.Core.Path.{◌≡◌, refl, sym, ◌∙◌}
use mathlib.Core.Bool.{true}
use mathlib.Core.List.{List, [], ◌∷◌, map, append-nil}
use Prim.Native.Nat.{ℕ, ◌^◌, ◌<◌}
use native.Mathlib.Omega.{arith}
use lib.ListN.{length}
use Rattle.pairs.specs.Cut.{Pair, cut, joined}
use Rattle.pairs.proofs.Cutting.{both, cuts, put-together}
use Rattle.feed.specs.Feed.{capped, how_many}
use Rattle.fives.specs.Replay.{agrees, differs, five}
use Rattle.torn.specs.Salvage.{of_kind, answered, keeps, salvage, kept_pairs, saved, Run, runs, put_back, Apart, none, one, every}
use Rattle.torn.specs.Lines.{skip_lines, capped_lines}
use Rattle.torn.proofs.Joining.{joined-cut}
use Rattle.torn.proofs.Saving.{saves, saved-as, kept_whole, kept-answered, all-kept, keeps-only}
use Rattle.torn.proofs.Back.{passed_is, put-back, apart, no-runs}

none_differ : (door : List ℕ → List ℕ) (pairs : List Pair) → every (answered door) pairs ≡ true
    → how_many (differs door) pairs ≡ 0
unfolding every answered how_many differs
none_differ door [] e = refl
none_differ door (pair ∷ pairs) e =
    let v = both (answered door pair) (every (answered door) pairs) e in
    let agree : agrees door pair ≡ true = (both (of_kind pair) (agrees door pair) v.0).1 in
    rw agree (none_differ door pairs v.1)

module _ (most : ℕ) (door : List ℕ → List ℕ) where
  -- "Putting the skipped bytes back at their offsets gives the torn file exactly."
  pub torn-again : (bytes : List ℕ)
      → put_back 0 (runs (salvage most door bytes)) (saved (salvage most door bytes)) ≡ bytes
  torn-again bytes = put-back (salvage most door bytes) ∙ passed_is (saves most door bytes)

  -- "each longest run"
  pub longest-runs : (bytes : List ℕ) → Apart (length bytes) 0 (runs (salvage most door bytes))
  longest-runs bytes =
      let m = salvage most door bytes in
      rw (passed_is (saves most door bytes)) at (apart m (kept_whole (saves most door bytes)))

  -- nothing of these bytes is skipped
  pub record Whole (bytes : List ℕ) : Type 0 where
    pub kept : saved (salvage most door bytes) ≡ bytes
    pub skipped : runs (salvage most door bytes) ≡ []

  -- a file of whole pairs that all agree, each request of one of the two kinds, is kept whole
  pub whole-file : (bytes : List ℕ) → (cut most bytes).left ≡ [] → every (answered door) (cut most bytes).pairs ≡ true
      → Whole bytes
  unfolding saved runs
  whole-file bytes ended all =
      let pairs = (cut most bytes).pairs in
      let is : salvage most door bytes ≡ map keeps pairs = saved-as most door (all-kept (cuts most bytes) ended all) in
      record {
        kept = rw (is, keeps-only pairs) (sym (append-nil (joined pairs)) ∙ rw ended at (put-together most bytes));
        skipped = rw is (no-runs 0 pairs);
      }

  -- how a salvaged file is cut
  module _ (bytes : List ℕ) where
    pairs-again : (cut most (saved (salvage most door bytes))).pairs ≡ kept_pairs (salvage most door bytes)
    unfolding saved
    pairs-again = (joined-cut most _ (kept_whole (saves most door bytes))).0

    none_left : (cut most (saved (salvage most door bytes))).left ≡ []
    unfolding saved
    none_left = (joined-cut most _ (kept_whole (saves most door bytes))).1

    -- "A second salvage keeps everything."
    pub second-salvage : Whole (saved (salvage most door bytes))
    second-salvage = whole-file _ none_left (rw pairs-again (kept-answered (saves most door bytes)))

    -- the replay of a salvaged file: every pair of it is the same today, and it is read to its end
    pub replay-agrees : ((five most door (saved (salvage most door bytes))).differ ≡ 0)
        × ((five most door (saved (salvage most door bytes))).rest ≡ 0)
    unfolding five
    replay-agrees = (rw pairs-again (none_differ door _ (kept-answered (saves most door bytes))), rw none_left)

-- an offset and a length of a torn file of fewer than 2^64 bytes are printed as they are
lines-within : {end at : ℕ} {rest : List Run} → end < 2 ^ 64 → Apart end at rest → capped_lines rest ≡ skip_lines rest
unfolding capped_lines skip_lines
lines-within small none = refl
lines-within small (one {run = run} f s w m) =
    let o : capped run.offset ≡ run.offset = omega arith in
    let n : capped (length run.bytes) ≡ length run.bytes = omega arith in
    rw (o, n, lines-within small m)

pub lines-exact : (most : ℕ) (door : List ℕ → List ℕ) (bytes : List ℕ) → length bytes < 2 ^ 64
    → capped_lines (runs (salvage most door bytes)) ≡ skip_lines (runs (salvage most door bytes))
lines-exact most door bytes small = lines-within small (longest-runs most door bytes)
