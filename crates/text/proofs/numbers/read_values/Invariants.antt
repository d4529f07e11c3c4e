-- `text::numbers::read_values` meets its contract: the values so far lie at the front of the array. Assumes nothing.
use mathlib.Core.Path.{◌≡◌}
use lib.Seq.{sets}
use Rattle.text.specs.numbers.Numbers.{after_values, values}
use Rattle.text.specs.words.Read.{Inside}
use Rattle.text.proofs.numbers.read_values.Given as goal

abbrev pub invariant-loop-k : goal.invariant-loop-k
invariant-loop-k l =
    (l.cursor ≡ after_values l.line l.initial.cursor l.k) × Inside l.line l.cursor × (l.out ≡ sets l.initial.out 0 (values l.line l.initial.cursor l.k))
