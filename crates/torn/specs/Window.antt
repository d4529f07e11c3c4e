-- The salvage while more bytes may come: what is known of a window of bytes, the first of which nothing is decided yet. Assumes nothing.
use Rattle.std.specs.Prelude.{◌≡◌, Bool, true, cond, not, ◌&&◌, ◌||◌, List, [], ◌∷◌, ◌++◌, ℕ, zero, suc, ◌+◌, ltb, eqb, length, drop}
use Rattle.wire.specs.Start.{is_length, length_field, starts_record, behind}
use Rattle.pairs.specs.Cut.{pair_size}
use Rattle.feed.specs.Feed.{capped}
use Rattle.torn.specs.Salvage.{good, salvage, saved, runs, runs_from}
use Rattle.torn.specs.Lines.{skip_line, capped_lines}

-- a record is cut off here: its length is not there yet, or it is one and not all of the bytes are there
unfoldable pub cut_off : ℕ → List ℕ → Bool
cut_off most bytes = ltb (length bytes) 2 || (is_length most (length_field bytes) && ltb (length bytes) (length_field bytes))

-- a pair is cut off here: bytes that come behind may make it whole
unfoldable pub waits : ℕ → List ℕ → Bool
waits most bytes = cut_off most bytes || (starts_record most bytes && cut_off most (behind bytes))

-- the first byte is skipped, whatever comes behind; at the end nothing does
unfoldable pub passes : ℕ → (List ℕ → List ℕ) → Bool → List ℕ → Bool
passes most door last bytes = not (good most door bytes) && (last || not (waits most bytes))

-- so many bytes at the front are skipped
unfoldable pub skips_ahead : ℕ → (List ℕ → List ℕ) → Bool → List ℕ → ℕ
skips_ahead most door last [] = 0
skips_ahead most door last (b ∷ s) = cond (passes most door last (b ∷ s)) (suc (skips_ahead most door last s)) 0

-- so many bytes at the front are those of pairs that are kept
unfoldable pub keeps_in : ℕ → (List ℕ → List ℕ) → ℕ → List ℕ → ℕ
keeps_in most door zero bytes = 0
keeps_in most door (suc turns) bytes =
    cond (good most door bytes)
    (pair_size most bytes + keeps_in most door turns (drop (pair_size most bytes) bytes))
    0

unfoldable pub keeps_ahead : ℕ → (List ℕ → List ℕ) → List ℕ → ℕ
keeps_ahead most door bytes = keeps_in most door (length bytes) bytes

-- ---- where a salvage stands

-- the line of a run that is over; none where nothing was skipped
unfoldable pub closed_line : ℕ → ℕ → List ℕ
closed_line from n = cond (eqb n 0) [] (skip_line from n)

-- n bytes were skipped from an offset on, and then s more are skipped and k are kept: the line of the run that is over then, the
-- offset from which on bytes are skipped next, and how many of them were skipped already
unfoldable pub line_after : ℕ → ℕ → ℕ → ℕ → List ℕ
line_after from n s k = cond (eqb k 0) [] (closed_line from (capped (n + s)))

unfoldable pub from_after : ℕ → ℕ → ℕ → ℕ → ℕ
from_after from n s k = cond (eqb k 0) from (capped (capped (from + capped (n + s)) + k))

unfoldable pub lost_after : ℕ → ℕ → ℕ → ℕ
lost_after n s k = cond (eqb k 0) (capped (n + s)) 0

-- whatever comes behind these bytes, the file and the lines of all begin with what was written, and the salvage goes on in a
-- window, where n bytes were skipped from an offset on; at the end nothing comes
pub record Stands (most : ℕ) (door : List ℕ → List ℕ) (last : Bool) (bytes file lines : List ℕ) (from n : ℕ) (window : List ℕ)
    : Type 0 where
  pub offset : ℕ
  pub lost : List ℕ
  pub from_is : from ≡ capped offset
  pub lost_is : n ≡ capped (length lost)
  pub saves : (x : List ℕ) → (last ≡ true → x ≡ [])
      → saved (salvage most door (bytes ++ x)) ≡ file ++ saved (salvage most door (window ++ x))
  pub tells : (x : List ℕ) → (last ≡ true → x ≡ [])
      → capped_lines (runs (salvage most door (bytes ++ x)))
      ≡ lines ++ capped_lines (runs_from offset lost (salvage most door (window ++ x)))
