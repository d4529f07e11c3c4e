-- `text::tell::write_reason` meets its contract: by the reason. Assumes nothing.
use native.Mathlib.Omega.{arith}
use Rattle.text.specs.tell.Tell.{told}
use Rattle.spell.proofs.Writing.{written-within}
use Rattle.text.proofs.tell.write_reason.Goals as goal

pub returns-in-NotNumber : goal.returns-in-NotNumber
unfolding told
returns-in-NotNumber c = rw c.in-NotNumber.is c.write_quoted.ensures

pub returns-in-Outside : goal.returns-in-Outside
unfolding told
returns-in-Outside c = rw c.in-Outside.is c.write_quoted-in-Outside.ensures

pub returns-in-LeftOver : goal.returns-in-LeftOver
unfolding told
returns-in-LeftOver c = rw c.in-LeftOver.is c.write_quoted-in-LeftOver.ensures

pub returns-in-TooFew : goal.returns-in-TooFew
unfolding told
returns-in-TooFew c = rw c.in-TooFew.is (written-within _ _ _ _ _ _ c.write_bytes.ensures 4132 (omega arith))

pub returns-in-TooLong : goal.returns-in-TooLong
unfolding told
returns-in-TooLong c =
    rw c.in-TooLong.is (written-within _ _ _ _ _ _ c.write_bytes-in-TooLong.ensures 4132 (omega arith))

pub returns-in-Other : goal.returns-in-Other
unfolding told
returns-in-Other c =
    rw c.in-Other.is (written-within _ _ _ _ _ _ c.write_bytes-in-Other.ensures 4132 (omega arith))
