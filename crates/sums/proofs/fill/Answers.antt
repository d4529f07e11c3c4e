-- `sums::fill` meets its contract: the points passed are in the table. Assumes nothing.
use mathlib.Core.Path.{◌∙◌}
use Prim.Native.Nat.{◌+◌, ◌*◌, ◌≤◌}
use native.Mathlib.Nat.{mul-le-mul}
use native.Mathlib.Omega.{arith}
use borrow.Author.Count.{below_none, below_more}
use Rattle.pascal.specs.Entry.{early_row}
use Rattle.pascal.proofs.Entries.{entry_in, entry-bound}
use Rattle.request.proofs.Forms.{small}
use Rattle.sums.specs.Filled.{PointAt}
use Rattle.sums.proofs.Filling.{path-most, beside-most, here, still, still-long}
use Rattle.sums.proofs.fill.Goals as goal

pub loop-c-init : goal.loop-c-init
loop-c-init c = (omega arith, c.requires.2, below_none _)

pub overflow_mul-per : goal.overflow_mul-per
overflow_mul-per c =
    let s = (small _ c.requires.0).N_most in
    let m : c.loop-c.c ≤ 9 = omega arith in
    record { fits = omega (arith, mul-le-mul c.numbers-per.ensures.1 m) }

pub beside-b-requires : goal.beside-b-requires
beside-b-requires c = let s = (small _ c.requires.0).N_most in (c.numbers-per.ensures.1, omega arith)

pub store_term-requires : goal.store_term-requires
store_term-requires c =
    let s = (small _ c.requires.0).N_most in
    let g = c.requires.1.numbers in (
      omega arith,
      omega arith,
      omega (arith, entry-bound early_row c.args.head.N c.loop-c.c (omega arith), c.weight.ensures),
      path-most c.args.path.now g (c.numbers-per.result * c.loop-c.c) _
          c.path_size_at-a.ensures,
      beside-most c.args.path.now g c.numbers-per.result
          (c.numbers-per.result * c.loop-c.c + 1) _ c.beside-b.ensures,
    )

pub loop-c-preserved : goal.loop-c-preserved
loop-c-preserved c =
    let s = (small _ c.requires.0).N_most in
    let v = c.loop-c.invariant in
    let e = c.store_term.ensures in
    let w = c.weight.ensures ∙ entry_in early_row c.args.head.N c.loop-c.c (omega arith) in (
      omega arith,
      rw e (still-long c.args.head c.args.path.now c.loop-c.t c.loop-c.c (omega arith) v.1 _ _ _),
      rw e
          (below_more (PointAt c.args.head c.args.path.now _) c.loop-c.c
          (λ d m. still c.args.head c.args.path.now c.loop-c.t c.loop-c.c (omega arith) v.1 _ _ _ d m (v.2 d m))
          (here c.args.head c.args.path.now c.loop-c.t c.loop-c.c (omega arith) v.1 _ _ _ w c.requires.1.numbers _
          c.numbers-per.ensures.0
          c.path_size_at-a.ensures c.beside-b.ensures)),
    )

pub returns : goal.returns
returns c = record { each = λ d m. c.loop-c.invariant.2 d (omega arith) }
