-- `judge::places::is_uneven` meets its contract: the sizes are small, and add up as the path's numbers do. Assumes nothing.
use mathlib.Core.Path.{◌≡◌, sym}
use mathlib.Core.List.{List}
use Prim.Native.Nat.{ℕ, ◌≤◌}
use native.Mathlib.Omega.{arith}
use lib.IntN.{ℤ, pos, nat_abs}
use lib.ListN.{length, get_or}
use Rattle.request.specs.Refusal.{parameter_place}
use Rattle.request.proofs.Bounds.{path-numbers, uneven-is}
use Rattle.judge.proofs.places.is_uneven.Goals as goal

small : (path : List ℤ) (k size : ℕ) → parameter_place path ≡ length path → size ≡ nat_abs (get_or path k (pos 0)) → size ≤ 1024
small path k size within e = rw e (path-numbers path within k).most

pub overflow_add-result : goal.overflow_add-result
overflow_add-result c =
    let e = c.requires.1 in
    omega (arith, small _ _ _ e c.path_size_at-x.ensures, small _ _ _ e c.path_size_at-y.ensures)

pub overflow_add-result-2 : goal.overflow_add-result-2
overflow_add-result-2 c =
    let e = c.requires.1 in
    omega (arith, small _ _ _ e c.path_size_at-x.ensures, small _ _ _ e c.path_size_at-y.ensures, small _ _ _ e c.path_size_at-z.ensures)

pub returns : goal.returns
returns c =
    rw (c.path_size_at-x.ensures, c.path_size_at-y.ensures, c.path_size_at-z.ensures)
    (sym (uneven-is _ _ c.requires.1))
