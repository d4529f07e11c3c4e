-- `text::rooms::read_rooms` meets its contract: the cases of its definition. Assumes nothing.
-- a line that gives no rooms, read up to here
use mathlib.Core.Path.{sym, ap, ◌∙◌}
use Prim.Native.Nat.{ℕ}
use native.Mathlib.Omega.{arith}
use Rattle.text.specs.declared.words.Cursor.{Cursor}
use Rattle.text.specs.declared.rooms.Rooms.{Rooms}
use Rattle.text.specs.declared.words.After.{After}
use Rattle.text.specs.rooms.Shown.{own_rooms, roomed}
use Rattle.text.proofs.rooms.read_rooms.Goals as goal
use Rattle.text.proofs.rooms.read_rooms.Goals.{then-is_some-via-then-is_some, then-is_some-via-else-is_some+then-is_age}

abbrev unroomed : ℕ → Cursor → After Rooms
unroomed own cursor = record { cursor = cursor; value = own_rooms own }

pub returns-then-is_some : goal.returns-then-is_some
unfolding roomed
returns-then-is_some c =
    elim c.then-is_some.branch [
      | then-is_some-via-then-is_some w ↦ record {
        is = rw (← c.next-word.ensures.is, sym c.is_some.ensures ∙ w.if-is_some.true);
        inside = c.requires.0;
        small_exact = omega arith;
        small_points = omega arith;
      }
      | then-is_some-via-else-is_some+then-is_age w ↦ record {
        is = rw (← c.next-word.ensures.is, sym c.is_some.ensures ∙ w.if-is_some.false, ← w.is_age.ensures, w.if-is_age.true);
        inside = c.requires.0;
        small_exact = omega arith;
        small_points = omega arith;
      }
    ]

pub returns-then-is_some-2 : goal.returns-then-is_some-2
unfolding roomed
returns-then-is_some-2 c =
    let word = c.next-word.ensures in
    record {
      is = rw (
        ← word.is,
        sym c.is_some.ensures ∙ c.if-is_some.false,
        ← c.is_age.ensures,
        c.if-is_age.false,
        ← c.next.ensures.is,
        sym c.is_some-2.ensures ∙ c.if-is_some-2.true,
      )
          (ap (unroomed c.args.own) c.left_over-alone.ensures);
      inside = rw c.left_over-alone.ensures (record { order = word.inside.order; end = word.inside.end });
      small_exact = omega arith;
      small_points = omega arith;
    }

pub returns : goal.returns
unfolding roomed
returns c =
    let points = c.number-points.ensures in
    let exact = c.number-exact.ensures in
    record {
      is =
          rw (
            ← c.next-word.ensures.is,
            sym c.is_some.ensures ∙ c.if-is_some.false,
            ← c.is_age.ensures,
            c.if-is_age.false,
            ← c.next.ensures.is,
            sym c.is_some-2.ensures ∙ c.if-is_some-2.false,
            ← exact.is,
            ← points.is,
          );
      inside = points.inside;
      small_exact = exact.size;
      small_points = points.size;
    }
