-- A page and where the next text goes on it. Assumes nothing.
use Rattle.std.specs.Prelude.{◌≡◌, List, ℕ}
use Rattle.page.specs.Page.{Puts}
use Rattle.page.specs.declared.Paper.{Paper}

-- a text was put there, on the same page
pub record Adds (old : Paper) (text : List ℕ) (new : Paper) : Type 0 where
  pub same : new.bytes.ghost_name ≡ old.bytes.ghost_name
  pub put : Puts old.bytes.now old.at text new.bytes.now new.at
