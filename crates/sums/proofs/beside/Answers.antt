-- `sums::beside` meets its contract. Assumes nothing.
use mathlib.Core.Path.{◌∙◌}
use Prim.Native.Nat.{◌≤◌}
use native.Mathlib.Nat.{mul-le-mul}
use native.Mathlib.Omega.{arith}
use borrow.Author.Tests.{lt-ltb, le-ltb}
use Rattle.sums.proofs.beside.Goals as goal

pub returns-then-per-lt2 : goal.returns-then-per-lt2
returns-then-per-lt2 c = rw (lt-ltb _ _ c.if-per-lt2.true)

pub overflow_mul-per : goal.overflow_mul-per
overflow_mul-per c =
    let m : c.args.c ≤ 9 = let p = c.requires.1 in omega arith in
    record { fits = omega (arith, mul-le-mul c.requires.0 m) }

pub overflow_add-per : goal.overflow_add-per
overflow_add-per c =
    let m : c.args.c ≤ 9 = let p = c.requires.1 in omega arith in
    record { fits = omega (arith, mul-le-mul c.requires.0 m) }

pub returns : goal.returns
returns c = c.path_size_at.ensures ∙ rw (le-ltb _ _ c.if-per-lt2.false)
