-- The contract of `lean_tick`, for every net, every moment and every array of words. Assumes nothing.
use Rattle.std.specs.Prelude.{◌≡◌, cond, List, ℕ, ltb, ℤ, pos, length, set}
use Rattle.tick.specs.declared.Tick.{Tick}
use Rattle.tick.specs.Told.{told}

-- the number, the place and the reading, and every later word as it was
unfoldable pub with_tick : Tick → List ℤ → List ℤ
with_tick t words = set (set (set words 0 (pos t.number)) 1 (pos t.place)) 2 t.reading

-- where there is no room for them nothing is written
pub record Ticked (points : List ℤ) (k : ℕ) (words : List ℤ) (code : ℕ) (words' : List ℤ) : Type 0 where
  pub code_is : code ≡ cond (ltb (length words) 3) 1 0
  pub words_is : words' ≡ cond (ltb (length words) 3) words (with_tick (told points k) words)
