-- `sums::gather::placed` meets its contract: a key stands at 0. Assumes nothing.
use mathlib.Core.Path.{◌≡◌, ◌∙◌}
use Prim.Native.Nat.{◌*◌}
use native.Mathlib.Nat.{add-zero}
use native.Mathlib.Omega.{arith}
use Rattle.sums.specs.gather.Table.{key_at}
use Rattle.sums.proofs.gather.placed.Goals as goal

pub overflow_add-result : goal.overflow_add-result
overflow_add-result c = let e = (let h : c.share.result ≡ key_at c.args.t.now c.args.c = c.share.ensures ∙ rw (add-zero (4 * c.args.c)) in h) in let p = c.requires.1 in omega arith

pub returns : goal.returns
returns c = rw ((let h : c.share.result ≡ key_at c.args.t.now c.args.c = c.share.ensures ∙ rw (add-zero (4 * c.args.c)) in h))
