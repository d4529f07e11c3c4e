-- What telling a night promises of the bytes that were read, whatever they are: the numbers, and all that was written, are those of
-- them; where nothing is told, the output stays. Above it what its parts promise: what was told so far is not kept, so that they say what
-- they add to it, whatever it is. Assumes nothing.
use Rattle.std.specs.Prelude.{◌≡◌, List, [], ◌++◌, ℕ}
use Rattle.door.specs.Contract.{reply_of}
use Rattle.pairs.specs.Cut.{longest_record}
use Rattle.feed.specs.Feed.{Feed, stepped, feed_in}
use Rattle.feed.specs.Parts.{fed}
use Rattle.streams.specs.declared.Stream.{Stream}
use Rattle.streams.specs.Stream.{Through, Wrote}
use Rattle.night.specs.declared.listing.State.{State}
use Rattle.night.specs.declared.listing.Reader.{Reader}
use Rattle.night.specs.declared.listing.Listed.{Listed}
use Rattle.night.specs.listing.Tale.{Tale, tells, tale_of, written}

-- the numbers of a state, behind a text that was told
abbrev pub tale_in : State → List ℕ → Tale
tale_in s text = record { calls = s.calls; offset = s.offset; differ = s.differ; text = text }

abbrev pub feed_with : Reader → List ℕ → Feed Tale
feed_with r text = feed_in r.held r.rest (tale_in r.state text)

-- what a byte does
abbrev pub step : ℕ → Feed Tale → ℕ → Feed Tale
step wanted = stepped longest_record (tells reply_of wanted)

-- this was told, and went out; where that is nothing, the output is the one that was lent
pub record Sends (out : Stream) (text : List ℕ) (out' : Stream) : Type 0 where
  pub wrote : Wrote out text out'
  pub none : text ≡ [] → out' ≡ out

-- from one state to another so much more was told, and went out
pub record Adds (add : Tale → Tale) (s s' : State) : Type 0 where
  pub more : List ℕ
  pub after : (text : List ℕ) → add (tale_in s text) ≡ tale_in s' (text ++ more)
  pub sent : Sends s.out more s'.out

-- these bytes were taken
pub record Takes (wanted : ℕ) (r : Reader) (bytes : List ℕ) (r' : Reader) : Type 0 where
  pub more : List ℕ
  pub after : (text : List ℕ) → feed_with r' (text ++ more) ≡ fed (step wanted) (feed_with r text) bytes
  pub sent : Sends r.state.out more r'.state.out

-- just these were read, and taken
pub record Reads (wanted : ℕ) (input : Stream) (r : Reader) (input' : Stream) (r' : Reader) : Type 0 where
  pub bytes : List ℕ
  pub went : Through input bytes input'
  pub takes : Takes wanted r bytes r'

-- a night that was told; that the last read failed is said by the input that is handed back
pub record Lists (wanted : ℕ) (input out : Stream) (r : Listed) : Type 0 where
  pub bytes : List ℕ
  pub went : Through input bytes r.input
  pub calls_is : r.calls ≡ (tale_of reply_of wanted bytes).gathered.calls
  pub differ_is : r.differ ≡ (tale_of reply_of wanted bytes).gathered.differ
  pub rest_is : r.rest ≡ (tale_of reply_of wanted bytes).rest
  pub sent : Sends out (written wanted r.input.failed (tale_of reply_of wanted bytes)) r.out
