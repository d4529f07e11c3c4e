-- `patch::write_all` meets its contract: the places passed are written, the others are still as they were. Assumes nothing.
use Prim.Native.Nat.{◌≤◌, ◌<◌}
use Rattle.patch_net.proofs.Standing.{Stands}
use Rattle.patch.specs.patch_sums.Contract.{index_of}
use Rattle.patch.specs.Writing.{Wrote}
use Rattle.patch.proofs.write_all.Given as goal

abbrev pub invariant-loop-R : goal.invariant-loop-R
invariant-loop-R l =
    (l.R ≤ l.count) × Wrote l.sums l.n l.L l.R l.initial.exact l.initial.points l.exact l.points × (l.R < l.count → Stands l.L l.R (index_of l.at))
