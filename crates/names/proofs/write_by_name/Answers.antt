-- `names::write_by_name` meets its contract: there is a name, or none. Assumes nothing.
use native.Mathlib.Omega.{arith}
use Rattle.std.proofs.lemmas.Bool.Decides.{nat_tests}
use Rattle.names.proofs.Naming.{unnamed, by_name_lem, rest-fits}
use Rattle.names.proofs.write_by_name.Goals as goal

pub returns-then-is_empty : goal.returns-then-is_empty
returns-then-is_empty c =
    unnamed _ _ _ c.first_number-n.ensures.number _ _ (rw (← c.name_of.ensures) (grind (arith, nat_tests))) c.write_bytes.ensures

pub write_bytes-requires-2 : goal.write_bytes-requires-2
write_bytes-requires-2 c = omega (arith, c.write_name-at.ensures.small, rest-fits _ c.args.line.now _ c.first_number-n.ensures.behind)

pub returns : goal.returns
returns c =
    by_name_lem _ _ _ c.first_number-n.ensures.number _ _ c.write_name-at.ensures (λ z. let none = rw (← c.name_of.ensures) at z in grind (arith, nat_tests)) _ _ _
    c.first_number-n.ensures.behind c.write_bytes-2.ensures
