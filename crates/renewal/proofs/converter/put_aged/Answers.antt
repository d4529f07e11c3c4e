-- `renewal::converter::put_aged` meets its contract. Assumes nothing.
use native.Mathlib.Omega.{arith}
use lib.ListN.{length-take, length-drop}
use Rattle.spell.proofs.Writing.{written_then}
use Rattle.renewal.proofs.converter.Leaves.{aged-size, aged-written}
use Rattle.renewal.proofs.converter.put_aged.Goals as goal

pub write_bytes-next-requires : goal.write_bytes-next-requires
write_bytes-next-requires c =
    omega (arith, aged-size _ c.requires.0.0 c.requires.0.2, c.requires.1)

pub write_bytes-requires : goal.write_bytes-requires
write_bytes-requires c =
    simp (length-take, length-drop)
    (omega (
      arith,
      aged-size _ c.requires.0.0 c.requires.0.2,
      c.requires.1,
      length-drop 8 c.args.request.now,
      c.write_bytes-next.ensures.ends,
    ))

pub returns : goal.returns
returns c =
    aged-written c.args.request.now c.requires.0.0 c.requires.0.2 _ c.aged_length-size.ensures
    (written_then _ _ _ _ _ _ _ _ _ _ c.write_bytes-next.ensures c.write_bytes.ensures)
