-- `day::daily::new` meets its contract. Assumes nothing.
use Rattle.feed.specs.Feed.{blank, held_of}
use Rattle.day.specs.daily.Read.{blank_state, state_of}
use Rattle.day.proofs.daily.new.Goals as goal

pub returns : goal.returns
unfolding blank_state state_of held_of blank
returns c = rw c.no_span.ensures
