-- `renewal::converter::put_turn` meets its contract. Assumes nothing.
use mathlib.Core.Path.{sym, ap, ◌∙◌}
use native.Mathlib.Omega.{arith}
use mathlib.Core.List.{[]}
use lib.ListN.{length, length-take}
use Rattle.spell.proofs.Writing.{written_none}
use Rattle.renewal.proofs.converter.Leaves.{turn-pair, turn-ended, turn-full, turn-none, byte-written}
use borrow.Author.Tests.{leb-true, leb-false}
use Rattle.renewal.proofs.converter.put_turn.Goals as goal

pub slice_bounds-put_pair-end : goal.slice_bounds-put_pair-end
slice_bounds-put_pair-end c = simp length-take (omega (arith, c.requires.0.inside))

pub put_pair-requires : goal.put_pair-requires
put_pair-requires c =
    let some = c.if-size-ne0.true in (
      c.requires.0.whole some,
      omega (arith, ap length (turn-pair c.args.held.now c.args.turn c.args.before c.args.b some), c.requires.1),
    )

pub returns-then-size-ne0 : goal.returns-then-size-ne0
returns-then-size-ne0 c =
    rw (turn-pair c.args.held.now c.args.turn c.args.before c.args.b c.if-size-ne0.true) c.put_pair.ensures

pub bounds-out-at : goal.bounds-out-at
bounds-out-at c =
    let ended = leb-true _ _ (sym c.has_ended.ensures ∙ c.if-has_ended.true) in
    omega (
      arith,
      ap length (turn-ended c.args.held.now c.args.turn c.args.before c.args.b c.if-size-ne0.false ended),
      c.requires.1,
    )

pub returns-then-has_ended : goal.returns-then-has_ended
returns-then-has_ended c =
    let ended = leb-true _ _ (sym c.has_ended.ensures ∙ c.if-has_ended.true) in
    rw (turn-ended c.args.held.now c.args.turn c.args.before c.args.b c.if-size-ne0.false ended)
    (byte-written c.args.out.now c.args.at c.args.b)

pub write_bytes-requires : goal.write_bytes-requires
write_bytes-requires c =
    let going = leb-false _ _ (sym c.has_ended.ensures ∙ c.if-has_ended.false) in
    omega (
      arith,
      ap length
          (turn-full c.args.held.now c.args.turn c.args.before c.args.b c.if-size-ne0.false going c.if-turn-eq-HELD.true),
      c.requires.1,
    )

pub returns-then-turn-eq-HELD : goal.returns-then-turn-eq-HELD
returns-then-turn-eq-HELD c =
    let going = leb-false _ _ (sym c.has_ended.ensures ∙ c.if-has_ended.false) in
    rw (turn-full c.args.held.now c.args.turn c.args.before c.args.b c.if-size-ne0.false going c.if-turn-eq-HELD.true) c.write_bytes.ensures

pub returns : goal.returns
returns c =
    let going = leb-false _ _ (sym c.has_ended.ensures ∙ c.if-has_ended.false) in
    rw (turn-none c.args.held.now c.args.turn c.args.before c.args.b c.if-size-ne0.false going c.if-turn-eq-HELD.false)
    (written_none 0 c.args.out.now c.args.at [] [] 0)
