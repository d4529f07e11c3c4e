-- `asking::take_lines` meets its contract: what the part tells before `at` was told. Assumes nothing.
use mathlib.Core.Path.{◌≡◌}
use Prim.Native.Nat.{◌-◌}
use lib.ListN.{length, take}
use Rattle.asking.specs.Asked.{Carries}
use Rattle.asking.proofs.take_lines.Given as goal

abbrev pub invariant-loop-at : goal.invariant-loop-at
invariant-loop-at l =
    (length l.line ≡ length l.initial.line) × (length l.out ≡ length l.initial.out) × (length l.err ≡ length l.initial.err) × (length l.spare ≡ length l.initial.spare)
    × Carries (record { name = l.how.name.now; by_names = l.how.by_names }) (take l.at l.part) l.initial.line l.initial.told l.line l.told

abbrev pub decreases-loop-at : goal.decreases-loop-at
decreases-loop-at l = length l.part - l.at
