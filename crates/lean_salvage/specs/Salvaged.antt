-- The contract of `lean_salvage`, for every window, every array of words and every line. Assumes nothing.
use Rattle.std.specs.Prelude.{◌≡◌, Bool, not, cond, ◌||◌, List, ℕ, ltb, eqb, length, get_or, set}
use Rattle.salvaging.specs.declared.saver.Place.{Place}
use Rattle.salvaging.specs.declared.saver.Stretch.{Stretch}
use Rattle.salvaging.specs.saver.Ahead.{line_room, stretch_of}

-- the place that the first two words are
unfoldable pub place_in : List ℕ → Place
place_in words = record { from = get_or words 0 0; lost = get_or words 1 0 }

-- the numbers of a stretch, and every later word as it was
unfoldable pub with_stretch : Stretch → List ℕ → List ℕ
with_stretch r words =
    set (set (set (set (set words 0 r.place.from) 1 r.place.lost) 2 r.skipped) 3 r.kept) 4 r.line

unfoldable pub cramped : List ℕ → List ℕ → Bool
cramped words line = ltb (length words) 5 || ltb (length line) line_room

-- where there is no room for them nothing is written
pub record Salvaged (window : List ℕ) (last : ℕ) (words line : List ℕ) (code : ℕ) (words' line' : List ℕ) : Type 0 where
  pub code_is : code ≡ cond (cramped words line) 1 0
  pub words_is : words' ≡ cond (cramped words line) words
      (with_stretch (stretch_of (not (eqb last 0)) window (place_in words) line).stretch words)
  pub line_is : line' ≡ cond (cramped words line) line (stretch_of (not (eqb last 0)) window (place_in words) line).line
