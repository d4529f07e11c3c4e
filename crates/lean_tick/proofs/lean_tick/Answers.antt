-- `lean_tick::lean_tick` meets its contract: the reading's own answer, in three words. Assumes nothing.
use mathlib.Core.Path.{◌≡◌}
use Prim.Native.Nat.{◌≤◌}
use native.Mathlib.Omega.{arith}
use lib.IntN.{pos}
use mir.Syntax.{w64}
use mir.Val.{to_z, of_z}
use Rattle.std.proofs.Common.{rules}
use Rattle.tick.specs.Reading.{most_points}
use Rattle.tick.proofs.Answered.{place-most}
use Rattle.lean_tick.specs.Ticked.{with_tick}
use Rattle.lean_tick.proofs.Crossed.{no_words, told_in}
use Rattle.lean_tick.proofs.lean_tick.Goals as goal

pub returns-then-words-lt3 : goal.returns-then-words-lt3
returns-then-words-lt3 c = no_words _ _ _ (omega arith)

pub overflow_cast-words : goal.overflow_cast-words
overflow_cast-words c =
    let m : c.read-told.result.place ≤ most_points = rw c.read-told.ensures (place-most c.args.points.now c.args.k) in
    record { sfits = omega arith }

pub returns : goal.returns
unfolding with_tick
returns c =
    let m : c.read-told.result.place ≤ most_points = rw c.read-told.ensures (place-most c.args.points.now c.args.k) in
    let told = c.read-told.result in
    let number : to_z w64 (of_z w64 c.from.result) ≡ pos told.number = search rules in
    let place : to_z w64 told.place ≡ pos told.place = search rules in
    let reading : to_z w64 (of_z w64 told.reading) ≡ told.reading = search rules in
    rw (number, place, reading) (told_in _ _ _ _ (omega arith) c.read-told.ensures)
