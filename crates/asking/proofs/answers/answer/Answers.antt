-- `asking::answers::answer` meets its contract: too little room, or enough. Assumes nothing.
use Rattle.asking.proofs.answers.Parts.{says_nothing, says-nothing-either, says_all}
use Rattle.asking.proofs.answers.answer.Goals as goal
use Rattle.asking.proofs.answers.answer.Goals.{then-out-lt8192-via-then-out-lt8192, then-out-lt8192-via-else-out-lt8192+then-err-lt8192}

pub returns-then-out-lt8192 : goal.returns-then-out-lt8192
returns-then-out-lt8192 c =
    elim c.then-out-lt8192.branch [
      | then-out-lt8192-via-then-out-lt8192 w ↦ says_nothing _ _ _ _ w.if-out-lt8192.true
      | then-out-lt8192-via-else-out-lt8192+then-err-lt8192 w ↦ says-nothing-either _ _ _ _ w.if-out-lt8192.false w.if-err-lt8192.true
    ]

pub returns : goal.returns
returns c =
    says_all _ _ _ _ c.if-out-lt8192.false
    c.if-err-lt8192.false _ _ _ _ c.say.ensures
