-- `renewal::converter::put_pair` meets its contract. Assumes nothing.
use mathlib.Core.Path.{sym, ap, ◌∙◌}
use mathlib.Core.List.{List}
use Prim.Native.Nat.{ℕ}
use native.Mathlib.Omega.{arith}
use lib.ListN.{length}
use Rattle.wire.specs.Start.{record_in}
use Rattle.spell.proofs.Writing.{written_then}
use Rattle.aging.specs.Convert.{aged}
use Rattle.renewal.proofs.converter.Leaves.{aged-not, pair-request, bytes-size, pair-written, pair-kept}
use Rattle.renewal.proofs.converter.put_pair.Goals as goal

pub put_aged-next-requires : goal.put_aged-next-requires
put_aged-next-requires c =
    let e = c.record_in-request.ensures in
    let r = pair-request c.args.pair.now c.requires.0 in
    let plain = sym c.ageless.ensures ∙ c.if-ageless.true in
    ((rw e r.least, rw e r.bound, plain), rw e (omega (arith, bytes-size c.args.pair.now, c.requires.1)))

pub write_bytes-requires : goal.write_bytes-requires
write_bytes-requires c =
    let e = ap (λ (l : List ℕ). length (aged l)) c.record_in-request.ensures in
    let f = ap length (c.record_in-reply.ensures ∙ ap record_in c.behind.ensures) in
    omega (
      arith,
      e,
      f,
      bytes-size c.args.pair.now,
      c.requires.1,
      c.put_aged-next.ensures.ends,
    )

pub returns-then-ageless : goal.returns-then-ageless
returns-then-ageless c =
    pair-written c.args.pair.now c.record_in-request.ensures (c.record_in-reply.ensures ∙ ap record_in c.behind.ensures)
    (written_then _ _ _ _ _ _ _ _ _ _ c.put_aged-next.ensures c.write_bytes.ensures)

pub write_bytes-next-requires : goal.write_bytes-next-requires
write_bytes-next-requires c =
    let e = ap (λ (l : List ℕ). length (aged l)) c.record_in-request.ensures in
    let s = ap length (aged-not _ (sym c.ageless.ensures ∙ c.if-ageless.false)) in
    omega (
      arith,
      e,
      s,
      bytes-size c.args.pair.now,
      c.requires.1,
    )

pub write_bytes-requires-2 : goal.write_bytes-requires-2
write_bytes-requires-2 c =
    let e = ap (λ (l : List ℕ). length (aged l)) c.record_in-request.ensures in
    let f = ap length (c.record_in-reply.ensures ∙ ap record_in c.behind.ensures) in
    let s = ap length (aged-not _ (sym c.ageless.ensures ∙ c.if-ageless.false)) in
    omega (
      arith,
      e,
      f,
      s,
      bytes-size c.args.pair.now,
      c.requires.1,
      c.write_bytes-next.ensures.ends,
    )

pub returns : goal.returns
returns c =
    pair-kept c.args.pair.now (sym c.ageless.ensures ∙ c.if-ageless.false) c.record_in-request.ensures
    (c.record_in-reply.ensures ∙ ap record_in c.behind.ensures)
    (written_then _ _ _ _ _ _ _ _ _ _ c.write_bytes-next.ensures c.write_bytes-2.ensures)
