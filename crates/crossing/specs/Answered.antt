-- An answer in lent words. Assumes nothing.
use Rattle.std.specs.Prelude.{List, ℕ, set}
use Rattle.request.specs.declared.Answer.{Answer}

-- the number, the place and the count, and every later word as it was
unfoldable pub with_answer : Answer → List ℕ → List ℕ
with_answer a words = set (set (set words 0 a.number) 1 a.place) 2 a.count
