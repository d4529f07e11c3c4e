-- What a call leaves that writes nothing but words: its code and the words. Assumes nothing.
use Rattle.std.specs.Prelude.{List, ℕ}

pub record Left (A : Type 0) : Type 0 where
  pub code : ℕ
  pub words : List A
