-- `lean_convert::put_words` meets its contract. Assumes nothing.
use Rattle.lean_convert.proofs.Arrays.{words_are}
use Rattle.lean_convert.proofs.put_words.Goals as goal

pub returns : goal.returns
returns c =
    words_are c.args.converter c.args.taken c.args.count c.from-refused.result
    c.refused.result c.refused.ensures c.from-refused.ensures
