-- `asking::answers::reply_to` meets its contract: a tick line, a patch line, or a ride. Assumes nothing.
use Rattle.asking.specs.tick_line.Line.{tick_word}
use Rattle.asking.specs.patch_line.Line.{patch_word}
use Rattle.asking.proofs.answers.Parts.{named-fits, replies-tick, replies-patch, replies-ride}
use Rattle.asking.proofs.answers.reply_to.Goals as goal

pub reply-requires : goal.reply-requires
reply-requires c =
    let short = named-fits _ _ _ c.begin.ensures.is c.next-word.ensures.is tick_word _ c.is_kind.ensures
    c.if-is_kind.true in
    (c.next-word.ensures.inside, short, c.requires)

pub returns-then-is_kind : goal.returns-then-is_kind
returns-then-is_kind c =
    replies-tick _ _ _ c.begin.ensures.is c.next-word.ensures.is _ _ _ _ c.is_kind.ensures c.if-is_kind.true
    c.reply.ensures

pub reply-requires-then-is_kind-2 : goal.reply-requires-then-is_kind-2
reply-requires-then-is_kind-2 c =
    let short = named-fits _ _ _ c.begin.ensures.is c.next-word.ensures.is patch_word _ c.is_kind-2.ensures
    c.if-is_kind-2.true in
    (c.next-word.ensures.inside, short, c.requires)

pub returns-then-is_kind-2 : goal.returns-then-is_kind-2
returns-then-is_kind-2 c =
    replies-patch _ _ _ c.begin.ensures.is c.next-word.ensures.is _ _ _ _ c.is_kind.ensures c.if-is_kind.false _
    c.is_kind-2.ensures c.if-is_kind-2.true c.reply-then-is_kind-2.ensures

pub returns : goal.returns
returns c =
    replies-ride _ _ _ c.begin.ensures.is c.next-word.ensures.is _ _ _ _ c.is_kind.ensures c.if-is_kind.false _
    c.is_kind-2.ensures c.if-is_kind-2.false c.reply-2.ensures
