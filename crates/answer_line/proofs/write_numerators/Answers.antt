-- `answer_line::write_numerators` meets its contract: the numbers so far are written. Assumes nothing.
use Rattle.std.proofs.Common.{◌≡◌, arith, length}
use Rattle.std.proofs.lemmas.Int.{ints, to_z-of_z}
use Rattle.two_words.specs.Words.{numbers_of}
use Rattle.two_words.proofs.Numbers.{numbers-length, numbers-at}
use Rattle.answer_line.proofs.Listing.{listing_none, listing-more, listing-all}
use Rattle.answer_line.proofs.write_numerators.Goals as goal

pub loop-k-init : goal.loop-k-init
loop-k-init c = listing_none _ _ _ _

pub loop-k-preserved : goal.loop-k-preserved
loop-k-preserved c =
    let here = numbers-at c.args.high.now c.args.low.now c.requires.0 c.loop-k.k c.loop-k-test.true in
    let all = numbers-length c.args.high.now c.args.low.now c.requires.0 in
    listing-more _ _ _ _ _ _ _ c.loop-k.invariant (rw all c.loop-k-test.true) _ _ c.write_next-end.auto.out
    (rw here (search (arith, ints, to_z-of_z, c.write_next-end.ensures)))

pub returns : goal.returns
returns c =
    let all : length (numbers_of c.args.high.now c.args.low.now) ≡ length c.args.high.now = numbers-length _ _ c.requires.0 in
    rw all at (listing-all _ _ _ _ _ _ _ c.loop-k.invariant (rw all c.loop-k-test.false))
