-- `text::words::bounded` meets its contract: what is left to spell, after what is spelled, is the whole. Assumes nothing.
use mathlib.Core.Path.{◌≡◌}
use Prim.Native.Nat.{◌≤◌, min}
use lib.ListN.{drop}
use Rattle.text.specs.words.Words.{is_digit, every, spelled}
use Rattle.text.specs.words.Read.{cap}
use Rattle.text.proofs.words.bounded.Given as goal

abbrev pub invariant-loop-b : goal.invariant-loop-b
invariant-loop-b l =
    (l.n ≤ cap) × (every is_digit l.digits ≡ every is_digit (drop l.b-index l.digits))
    × (min (spelled 0 l.digits) cap ≡ min (spelled l.n (drop l.b-index l.digits)) cap)
