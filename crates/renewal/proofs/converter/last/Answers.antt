-- `renewal::converter::last` meets its contract. Assumes nothing.
use mathlib.Core.Path.{sym, ◌∙◌}
use Prim.Native.Nat.{◌<◌}
use native.Mathlib.Omega.{arith}
use Rattle.spell.proofs.Writing.{no_room}
use Rattle.renewal.proofs.converter.Leaves.{no_bytes, last_none, few-kept, last-put}
use Rattle.feed.specs.Feed.{held_room}
use borrow.Author.Tests.{leb-true, leb-false}
use Rattle.renewal.proofs.converter.last.Goals as goal

pub returns-then-out-lt256 : goal.returns-then-out-lt256
returns-then-out-lt256 c = no_room _ _ _ (omega arith)

pub returns-then-has_ended : goal.returns-then-has_ended
returns-then-has_ended c =
    let s = c.args.converter in
    no_bytes _ _ _ (omega arith) (last_none s.held s.rest s.changed (leb-true _ _ (sym c.has_ended.ensures ∙ c.if-has_ended.true)))

pub write_bytes-requires : goal.write_bytes-requires
write_bytes-requires c =
    let s = c.args.converter in
    omega (arith, few-kept s.held s.rest s.changed ((let h : c.args.converter.rest < held_room = leb-false _ _ (sym c.has_ended.ensures ∙ c.if-has_ended.false) in h)) c.kept.ensures)

pub returns : goal.returns
returns c =
    let s = c.args.converter in
    last-put s.held s.rest s.changed ((let h : c.args.converter.rest < held_room = leb-false _ _ (sym c.has_ended.ensures ∙ c.if-has_ended.false) in h)) (omega arith) c.kept.ensures c.write_bytes.ensures
