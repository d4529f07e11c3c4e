-- `text::pieces::cut` meets its contract: what is left to cut, after what is kept, is the whole. Assumes nothing.
use Prim.Native.Nat.{◌≤◌, max}
use lib.ListN.{length}
use Rattle.text.proofs.pieces.Keeping.{Cutting}
use Rattle.text.proofs.pieces.cut.Given as goal

abbrev pub invariant-loop-i : goal.invariant-loop-i
invariant-loop-i l = Cutting l.part l.fn.at l.initial.line l.fn.kept l.line l.end l.i × (l.i ≤ max l.fn.at (length l.part))
