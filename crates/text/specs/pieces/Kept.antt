-- How a line of any length is kept in a room of its own, and cut out of the parts of an input: what is too long keeps its
-- front, and whether all of it is blank. Assumes nothing.
use Rattle.std.specs.Prelude.{◌≡◌, Bool, true, false, not, cond, ◌||◌, List, [], ◌∷◌, ◌++◌, ℕ, suc, ◌+◌, ◌-◌, ◌≤◌, ltb, eqb, length, get_or, take, drop, set}
use Rattle.spell.specs.Decimal.{Front}
use Rattle.text.specs.words.Words.{is_blank, every}
use Rattle.text.specs.declared.pieces.Piece.{Piece}

-- a line of blanks alone, or one that begins with `#`, however long, is passed over
unfoldable pub is_passed : List ℕ → Bool
is_passed line = eqb (get_or line 0 0) 35 || every is_blank line

-- a byte more: behind the others where there is room, else in place of a blank at the end
unfoldable pub kept_byte : ℕ → List ℕ → ℕ → List ℕ
kept_byte room l b =
    cond (ltb (length l) room) (l ++ b ∷ []) (cond (is_blank (get_or l (room - 1) 0)) (set l (room - 1) b) l)

-- no newline
unfoldable pub is_text : ℕ → Bool
is_text b = not (eqb b 10)

-- what is kept after a part's bytes up to its next newline, how many were read, and whether there was a newline
pub record Cut : Type 0 where
  pub kept : List ℕ
  pub read : ℕ
  pub ended : Bool

unfoldable pub cut_at : ℕ → List ℕ → List ℕ → Cut
cut_at room l [] = record { kept = l; read = 0; ended = false }
cut_at room l (b ∷ s) =
    cond (eqb b 10) (record { kept = l; read = 1; ended = true })
    (let c = cut_at room (kept_byte room l b) s in record { kept = c.kept; read = suc c.read; ended = c.ended })

-- the part from `at` on was cut
pub record Cuts (part : List ℕ) (at : ℕ) (before : List ℕ) (kept : ℕ) (now : List ℕ) (r : Piece) : Type 0 where
  pub keeps : Front (cut_at (length before) (take kept before) (drop at part)).kept before now r.kept
  pub fits : r.kept ≤ length before
  pub next : r.at ≡ at + (cut_at (length before) (take kept before) (drop at part)).read
  pub ended : r.ended ≡ (cut_at (length before) (take kept before) (drop at part)).ended
