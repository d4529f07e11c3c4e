-- `door::compose_in` meets its contract: the arrays have room, and what is read into them is the request of the record.
-- Assumes nothing.
use mathlib.Core.Path.{◌≡◌, sym, ap}
use Prim.Native.Nat.{ℕ, ◌≤◌}
use native.Mathlib.Omega.{arith}
use lib.IntN.{ℤ}
use lib.ListN.{length}
use mathlib.Core.List.{List}
use lib.Seq.{length-take-le}
use Rattle.request.specs.declared.Rooms.{Rooms}
use Rattle.request.specs.Head.{most_points}
use Rattle.judgement.specs.Record.{path_start, body_end}
use Rattle.judgement.proofs.Sizes.{surface-most, path-most, start-most}
use Rattle.door.proofs.Composing.{request-read, composed-given}
use Rattle.door.proofs.compose_in.Goals as goal

-- the rooms of the arrays that are lent to the composer
abbrev with-points : ℕ → Rooms
with-points n = record { high = most_points; low = most_points; points = n }

-- as many numbers as are wanted are within the places
room : {n most count : ℕ} (l : List ℤ) → n ≤ most → count ≡ n → length l ≡ most → count ≤ length l
room l few is long = omega arith

pub read_numbers-requires : goal.read_numbers-requires
unfolding path_start body_end
read_numbers-requires c =
    omega (arith, surface-most c.args.head c.requires.0.small)

pub overflow_mul-surface_count : goal.overflow_mul-surface_count
overflow_mul-surface_count c =
    omega (arith, surface-most c.args.head c.requires.0.small)

pub overflow_add-from : goal.overflow_add-from
overflow_add-from c =
    let few = surface-most c.args.head c.requires.0.small in
    omega (arith, few, c.requires.0.read.from_is, start-most c.args.request.now)

pub read_numbers-requires-2 : goal.read_numbers-requires-2
unfolding path_start body_end
read_numbers-requires-2 c =
    omega (arith, path-most c.args.head c.requires.0.small)

pub slice_bounds-surface-end : goal.slice_bounds-surface-end
slice_bounds-surface-end c = room _ (surface-most c.args.head c.requires.0.small) c.surface_count-surface_count.ensures c.read_numbers.auto.numbers

pub slice_bounds-compose-end : goal.slice_bounds-compose-end
slice_bounds-compose-end c =
    sym (length-take-le _ _ (room _ (surface-most c.args.head c.requires.0.small) c.surface_count-surface_count.ensures c.read_numbers.auto.numbers))

pub slice_bounds-path-end : goal.slice_bounds-path-end
slice_bounds-path-end c = room _ (path-most c.args.head c.requires.0.small) c.path_count-path_count.ensures c.read_numbers-2.auto.numbers

pub slice_bounds-compose-end-2 : goal.slice_bounds-compose-end-2
slice_bounds-compose-end-2 c =
    sym (length-take-le _ _ (room _ (path-most c.args.head c.requires.0.small) c.path_count-path_count.ensures c.read_numbers-2.auto.numbers))

pub returns : goal.returns
returns c =
    let request = request-read c.args.request.now c.args.from _ c.args.head _ _ _ _ _ _
    c.requires.0.read c.surface_count-surface_count.ensures c.path_count-path_count.ensures
    c.read_numbers.ensures c.read_numbers-2.ensures in
    let rooms : length c.args.points.now ≡ most_points = c.requires.1 in
    composed-given c.args.request.now _ _ _ _ _ request c.requires.0.read.age_is
    (ap with-points rooms) c.compose-composed.ensures
