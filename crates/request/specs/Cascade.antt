-- A table of refusals: tests in their order, each with the number and the place that are answered where it is the first to
-- hold. The request's nine refusals are one such table (Refusal.antt); so is what the door judges itself. The laws are in
-- proofs/Cascade.antt, once for every table. Assumes nothing.
use Rattle.std.specs.Prelude.{Bool, cond, List, [], ◌∷◌, ℕ}
use Rattle.std.proofs.Math.Option.{Option, none, some}
use Rattle.request.specs.declared.Answer.{Answer}

pub record Test : Type 0 where
  pub number : ℕ
  pub holds : Bool
  pub place : ℕ

-- a line of a table: number, test and place
abbrev pub test : ℕ → Bool → ℕ → Test
test number holds place = record { number = number; holds = holds; place = place }

-- the first test of a table that holds
unfoldable pub first : List Test → Option Test
first [] = none
first (t ∷ rest) = cond t.holds (some t) (first rest)

-- "Refused: the number, a place, count 0."
unfoldable pub refused : ℕ → ℕ → Answer
refused number place = record { number = number; place = place; count = 0 }

-- "Accepted: 0, 0," and a count
unfoldable pub accepting : ℕ → Answer
accepting count = record { number = 0; place = 0; count = count }

-- the refusal of the test that decides; where none does, the last word
unfoldable pub decided : Option Test → Answer → Answer
decided none last = last
decided (some t) last = refused t.number t.place
