-- `entries::ending::second_at` meets its contract. Assumes nothing.
use mathlib.Core.Path.{ap, ◌∙◌}
use Prim.Native.Nat.{ℕ, ◌+◌}
use Rattle.wire.specs.Start.{length_field}
use Rattle.feed.specs.Feed.{capped}
use Rattle.shown.proofs.entries.ending.second_at.Goals as goal

pub returns : goal.returns
unfolding length_field
returns c = c.sum.ensures ∙ ap (λ (n : ℕ). capped (c.args.offset + n)) c.word_at.ensures.0
