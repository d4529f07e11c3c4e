-- `feed::put` meets its contract. Assumes nothing.
use mathlib.Core.Path.{refl}
use native.Mathlib.Omega.{arith}
use lib.ListN.{length-take, length-set}
use Rattle.feed.proofs.Holding.{put-out, put_in}
use Rattle.feed.proofs.put.Goals as goal

pub returns-then-held-at : goal.returns-then-held-at
returns-then-held-at c = put-out _ _ _ _ _ c.more-next.ensures (omega arith)

pub slice_bounds-pair_size-end : goal.slice_bounds-pair_size-end
slice_bounds-pair_size-end c = simp length-set (omega arith)

pub slice_bounds-pair_size-end-2 : goal.slice_bounds-pair_size-end-2
slice_bounds-pair_size-end-2 c = simp (length-take, length-set) (omega arith)

pub returns : goal.returns
returns c = put_in _ _ _ _ _ c.more-next.ensures _ _ (omega arith) refl c.pair_size.ensures
