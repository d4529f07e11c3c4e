-- `card::drive` meets its contract: it goes down the table, one test after the other, and what passes all of them is answered.
-- Assumes nothing.
use Rattle.std.proofs.Common.{◌≡◌, ◌+◌, pos, rules, arith}
use Rattle.request.specs.Head.{longest}
use Rattle.request.specs.Cascade.{first, decided}
use Rattle.request.specs.Refusal.{not_surface, not_value}
use Rattle.request.proofs.Forms.{degree-most}
use Rattle.request.proofs.Bounds.{value-most}
use Rattle.floats.specs.Path.{path_of}
use Rattle.part.specs.Part.{first_of, last_of, head_of, request_of}
use Rattle.part.specs.Contract.{refusals, verdict}
use Rattle.card.proofs.Verdict.{shown, count_most, first-beyond, last-beyond, none-beyond, accepted-shows}
use Rattle.card.proofs.drive.Goals as goal

pub returns-then-not_degree : goal.returns-then-not_degree
unfolding verdict refusals request_of first decided
returns-then-not_degree c = record { shows = shown (search rules) (c.refused.ensures.shows _) }

pub returns-then-surface-surface_count : goal.returns-then-surface-surface_count
unfolding verdict refusals request_of first decided not_surface
returns-then-surface-surface_count c = record { shows = shown (search rules) (c.refused-then-surface-surface_count.ensures.shows _) }

pub returns-then-value-surface : goal.returns-then-value-surface
unfolding verdict refusals request_of first decided not_surface not_value
returns-then-value-surface c = record { shows = shown (search rules) (c.refused-then-value-surface.ensures.shows _) }

pub returns-then-beyond_path : goal.returns-then-beyond_path
unfolding verdict refusals request_of first decided not_surface not_value
returns-then-beyond_path c =
    let parameter = first-beyond c.args.m c.args.surface.now c.args.part (search rules) in
    record { shows = shown (search rules) (c.refused-then-beyond_path.ensures.shows _) }

pub returns-then-beyond_path-2 : goal.returns-then-beyond_path-2
unfolding verdict refusals request_of first decided not_surface not_value
returns-then-beyond_path-2 c =
    let parameter = last-beyond c.args.m c.args.surface.now c.args.part (search rules) (search rules) in
    record { shows = shown (search rules) (c.refused-then-beyond_path-2.ensures.shows _) }

pub answered-requires : goal.answered-requires
answered-requires c =
    let head = head_of c.args.m c.args.part in
    let few = count_most c.args.m c.args.part (degree-most head (search rules)) in
    let count : c.place_count.result ≡ longest head + 1 = search rules in
    let value = value-most c.args.surface.now in
    (few.0, rw count few.1, omega (arith, c.value_place-value.ensures, value), search rules, search rules)

pub returns : goal.returns
unfolding verdict refusals request_of first decided not_surface not_value
returns c =
    let x : c.path_number-x.result.0 ≡ pos (path_of (first_of c.args.part)) = search rules in
    let y : c.path_number-y.result.0 ≡ pos (path_of (last_of c.args.part)) = search rules in
    let none = none-beyond c.args.m c.args.surface.now c.args.part (search rules) (search rules) in
    record { shows = shown (search rules) (accepted-shows c.args.m c.args.surface.now c.args.part (search rules) (rw (x, y) at c.answered.ensures)) }
