-- "From offset 0: if a request of kind 0x0001 or 0x0002 and its reply start here, each [..] whole, and the door today answers that
-- reply byte for byte, keep both and go past them; else skip one byte" (rule Salvage; 02, ticket 13). Over any door and the
-- greatest length of a record. Theorems in proofs/Promises.antt. Assumes nothing.
use Rattle.std.specs.Prelude.{Bool, true, cond, ◌&&◌, ◌||◌, List, [], ◌∷◌, ◌++◌, ℕ, zero, suc, ◌+◌, ◌-◌, ◌≤◌, ◌<◌, eqb, length, take, drop}
use Rattle.wire.specs.Start.{kind_field, behind}
use Rattle.judgement.specs.Record.{request_kind, aged_kind}
use Rattle.pairs.specs.Cut.{Pair, starts_pair, pair_in, joined}
use Rattle.fives.specs.Replay.{agrees}

-- "a request of kind 0x0001 or 0x0002", and "the door today answers that reply byte for byte"
unfoldable pub of_kind : Pair → Bool
of_kind pair = eqb (kind_field pair.request) request_kind || eqb (kind_field pair.request) aged_kind

unfoldable pub answered : (List ℕ → List ℕ) → Pair → Bool
answered door pair = of_kind pair && agrees door pair

-- a pair that is kept starts here
unfoldable pub good : ℕ → (List ℕ → List ℕ) → List ℕ → Bool
good most door bytes = starts_pair most bytes && answered door (pair_in bytes)

-- what becomes of the bytes from an offset on: a pair is kept, or one byte is skipped
pub data Mark : Type 0 where
  keeps : Pair → Mark
  skips : ℕ → Mark

-- in at most so many turns; each passes a byte at least, so as many turns as there are bytes are enough
unfoldable pub salvage_in : ℕ → (List ℕ → List ℕ) → ℕ → List ℕ → List Mark
salvage_in most door zero bytes = []
salvage_in most door (suc turns) [] = []
salvage_in most door (suc turns) (b ∷ s) =
    cond (good most door (b ∷ s))
    (keeps (pair_in (b ∷ s)) ∷ salvage_in most door turns (behind (behind (b ∷ s))))
    (skips b ∷ salvage_in most door turns s)

unfoldable pub salvage : ℕ → (List ℕ → List ℕ) → List ℕ → List Mark
salvage most door bytes = salvage_in most door (length bytes) bytes

-- the kept pairs, in order, and "a new file" of them
unfoldable pub kept_pairs : List Mark → List Pair
kept_pairs [] = []
kept_pairs (keeps pair ∷ marks) = pair ∷ kept_pairs marks
kept_pairs (skips b ∷ marks) = kept_pairs marks

unfoldable pub saved : List Mark → List ℕ
saved marks = joined (kept_pairs marks)

-- "each longest run of skipped bytes": its offset in the torn file, and its bytes
pub record Run : Type 0 where
  pub offset : ℕ
  pub bytes : List ℕ

-- these bytes were skipped from an offset on, and then a pair is kept, or the file ends
unfoldable pub closed : ℕ → List ℕ → List Run
closed from [] = []
closed from (b ∷ s) = record { offset = from; bytes = b ∷ s } ∷ []

-- the runs of what follows, where the last bytes, from an offset on, were skipped
unfoldable pub runs_from : ℕ → List ℕ → List Mark → List Run
runs_from from lost [] = closed from lost
runs_from from lost (skips b ∷ marks) = runs_from from (lost ++ b ∷ []) marks
runs_from from lost (keeps pair ∷ marks) =
    closed from lost ++ runs_from (from + length lost + length (pair.request ++ pair.reply)) [] marks

unfoldable pub runs : List Mark → List Run
runs marks = runs_from 0 [] marks

-- "Putting the skipped bytes back at their offsets": into a file that stands for the torn one from an offset on
unfoldable pub put_back : ℕ → List Run → List ℕ → List ℕ
put_back at [] file = file
put_back at (run ∷ more) file =
    let n = run.offset - at in
    take n file ++ run.bytes ++ put_back (run.offset + length run.bytes) more (drop n file)

-- each run has bytes, lies within the torn file, and ends before the next one begins: none of them could be longer
pub data Apart (end : ℕ) : ℕ → List Run → Type 0 where
  none : {at : ℕ} → Apart end at []
  one : {at : ℕ} {run : Run} {more : List Run} → at ≤ run.offset → 0 < length run.bytes
      → run.offset + length run.bytes ≤ end → Apart end (run.offset + length run.bytes + 1) more
      → Apart end at (run ∷ more)

-- every one of some pairs passes a test
unfoldable pub every : (Pair → Bool) → List Pair → Bool
every test [] = true
every test (pair ∷ pairs) = test pair && every test pairs
