-- The converter as a trace comes in parts: a fold of the pairs, which counts the requests that it changes, and the bytes that
-- are put out on the way. A pair is put out when it is whole. Where so many bytes are kept that no pair can become whole
-- any more, the reading has ended: they are put out, and from then on each byte itself. That what is put out is the converted
-- trace is in proofs/Putting.antt. Assumes nothing.
use Rattle.std.specs.Prelude.{◌≡◌, true, cond, List, [], ◌∷◌, ◌++◌, ℕ, ◌+◌, ◌≤◌, ltb, eqb, length, take}
use Rattle.std.proofs.lemmas.List.Edits.{sets}
use Rattle.wire.specs.Start.{shortest}
use Rattle.pairs.specs.Cut.{Pair, starts_pair, pair_in}
use Rattle.feed.specs.Feed.{Feed, capped, held_room, blank, stepped, held_of, feed_in}
use Rattle.feed.specs.Parts.{fed}
use Rattle.feed.specs.declared.Handed.{Handed}
use Rattle.spell.specs.Decimal.{Written}
use Rattle.renewal.specs.declared.converter.Converter.{Converter}
use Rattle.renewal.specs.declared.converter.Taken.{Taken}
use Rattle.aging.specs.Convert.{former_longest, ageless, aged_pair, changes}

-- ---- a byte more

unfoldable pub counts : ℕ → Pair → ℕ
counts n pair = cond (changes pair) (capped (n + 1)) n

abbrev pub step : Feed ℕ → ℕ → Feed ℕ
step = stepped former_longest counts

unfoldable pub aged_bytes : List ℕ → List ℕ
aged_bytes bytes = let pair = aged_pair (pair_in bytes) in pair.request ++ pair.reply

-- what a byte puts out
unfoldable pub put_out : Feed ℕ → ℕ → List ℕ
put_out s b =
    let left = s.kept ++ b ∷ [] in
    cond (ltb s.rest held_room)
    (cond (starts_pair former_longest left) (aged_bytes left) (cond (eqb (s.rest + 1) held_room) left []))
    (b ∷ [])

-- and bytes one after the other
unfoldable pub put_all : Feed ℕ → List ℕ → List ℕ
put_all s [] = []
put_all s (b ∷ part) = put_out s b ++ put_all (step s b) part

-- what is still kept at the end
unfoldable pub last_out : Feed ℕ → List ℕ
last_out s = cond (ltb s.rest held_room) s.kept []

-- ---- the converter

-- what a converter holds, and the one that holds it and nothing else
abbrev pub feed_of : Converter → Feed ℕ
feed_of converter = feed_in converter.held converter.rest converter.changed

unfoldable pub converter_of : Feed ℕ → Converter
converter_of s = record { held = held_of s.kept; rest = s.rest; changed = s.gathered }

-- nothing was taken; and after a part
unfoldable pub begun : Converter
begun = converter_of (blank 0)

unfoldable pub after_part : Converter → List ℕ → Converter
after_part converter part = converter_of (fed step (feed_of converter) part)

-- what parts one after the other put out
unfoldable pub put_parts : Converter → List (List ℕ) → List ℕ
put_parts converter [] = []
put_parts converter (part ∷ parts) = put_all (feed_of converter) part ++ put_parts (after_part converter part) parts

-- ---- in lent buffers

-- the most that is taken of a part at once, and the room for what that can put out: every pair has 16 bytes or more and grows
-- by two at most, and fewer than 256 bytes were kept before
abbrev pub part_room : ℕ
part_room = 65536

abbrev pub out_room : ℕ
out_room = 74016

-- the bytes of a part that are taken; none where there is not that room
unfoldable pub front : List ℕ → List ℕ → List ℕ
front part out = cond (ltb (length out) out_room) [] (take part_room part)

-- how many of them, the converter behind them, how many bytes were put out, and the buffer
pub record Fills (converter : Converter) (bytes out : List ℕ) (r : Taken) (out' : List ℕ) : Type 0 where
  pub taken : r.bytes ≡ length bytes
  pub converter_is : r.converter ≡ after_part converter bytes
  pub counted : r.count ≡ length (put_all (feed_of converter) bytes)
  pub written : out' ≡ sets out 0 (put_all (feed_of converter) bytes)
  pub within : r.count ≤ length out'

-- ---- a turn

-- what a turn of the reader puts out: `held` and `handed` are what it left, `before` bytes were there before it, and b came first
unfoldable pub turn_out : List ℕ → Handed → ℕ → ℕ → List ℕ
turn_out held handed before b =
    cond (eqb handed.size 0)
    (cond (ltb before held_room) (cond (eqb handed.rest held_room) held []) (b ∷ []))
    (aged_bytes (take handed.size held))

-- a whole request of the old reading that carries no age
abbrev pub Plain : List ℕ → Type 0
Plain request = (shortest ≤ length request) × (length request ≤ former_longest) × (ageless request ≡ true)

-- bytes were written from a place on, up to an end
abbrev pub Writes : List ℕ → List ℕ → ℕ → List ℕ → ℕ → Type 0
Writes bytes before at now end = Written (length bytes) before at bytes now end

-- a pair that is handed on is whole
pub record Handing (held : List ℕ) (size : ℕ) : Type 0 where
  pub inside : size ≤ length held
  pub whole : (size ≡ 0 → ⊥) → starts_pair former_longest (take size held) ≡ true
