-- `args::number_of` meets its contract: what is read so far is the number of the digits before. Assumes nothing.
use Rattle.std.proofs.Common.{◌≡◌, ◌<◌, drop}
use Rattle.args.specs.Args.{count_from, number_in}
use Rattle.args.proofs.number_of.Given as goal

abbrev pub invariant-loop-b : goal.invariant-loop-b
invariant-loop-b l = (l.n < 1000000000000000000) × (number_in l.word ≡ count_from l.n (drop l.b-index l.word))
