-- The converter on the whole list of bytes: "in each whole pair that the old reading takes, a request of kind 0x0001 becomes
-- 0x0002 with age 0, length two more; all else is copied, and so is everything from where the old reading ends" (rule Old traces;
-- 02, ticket 10). Its laws are in proofs/{Same,Again}.antt. Assumes nothing.
use Rattle.std.specs.Prelude.{◌≡◌, refl, Bool, true, false, cond, ◌&&◌, ◌||◌, List, [], ◌∷◌, ◌++◌, map, ℕ, eqb, leb, length, take, drop}
use Rattle.wire.specs.Words.{word_bytes, word_at}
use Rattle.wire.specs.Start.{is_length, length_field, kind_field, start, record_start, record_of, starts_record, record_in, behind}
use Rattle.pairs.specs.Cut.{longest_record, Pair, starts_pair, pair_in, cut_in, cut, joined}
use Rattle.feed.specs.Feed.{how_many}
use Rattle.judgement.specs.Record.{request_kind, aged_kind}

-- the greatest length of a record that the old reading takes: "8 to 126"
abbrev pub former_longest : ℕ
former_longest = 126

-- a request that carries no age, and what becomes of it: the age stands "in two bytes after N"
unfoldable pub ageless : List ℕ → Bool
ageless request = eqb (kind_field request) request_kind

unfoldable pub aged : List ℕ → List ℕ
aged request = cond (ageless request) (record_of aged_kind (take 4 (drop 4 request) ++ word_bytes 0 ++ drop start request)) request

unfoldable pub aged_pair : Pair → Pair
aged_pair pair = record { request = aged pair.request; reply = pair.reply }

unfoldable pub converted : List ℕ → List ℕ
converted bytes = joined (map aged_pair (cut former_longest bytes).pairs) ++ (cut former_longest bytes).left

-- how many requests are changed
unfoldable pub changes : Pair → Bool
changes pair = ageless pair.request

unfoldable pub changed : List ℕ → ℕ
changed bytes = how_many changes (cut former_longest bytes).pairs

-- a record's length stands here, and it is 127 or 128
unfoldable pub starts_long : List ℕ → Bool
starts_long bytes = leb 2 (length bytes) && leb 127 (length_field bytes) && leb (length_field bytes) longest_record

-- "the old reading [ended] at a record length of 127 or 128": a request's, or the reply's behind a whole request
unfoldable pub ends_long : List ℕ → Bool
ends_long left = starts_long left || (starts_record former_longest left && starts_long (behind left))

-- "on such a trace the converter writes no byte of trace"
unfoldable pub refuses : List ℕ → Bool
refuses bytes = ends_long (cut former_longest bytes).left

-- ---- worked traces

-- P1 without an age, and its reply; a ride of age 17; a request without an age whose form is 4, and a record of kind 0x0001 in its
-- reply's place; and a request that is cut off
unfoldable pub night : List ℕ
night =
    (16 ∷ 0 ∷ 1 ∷ 0 ∷ 1 ∷ 1 ∷ 0 ∷ 1 ∷ 0 ∷ 0 ∷ 100 ∷ 0 ∷ 0 ∷ 0 ∷ 0 ∷ 4 ∷ [])
    ++ (12 ∷ 0 ∷ 1 ∷ 128 ∷ 0 ∷ 0 ∷ 2 ∷ 0 ∷ 0 ∷ 0 ∷ 100 ∷ 0 ∷ [])
    ++ (14 ∷ 0 ∷ 2 ∷ 0 ∷ 1 ∷ 0 ∷ 0 ∷ 0 ∷ 17 ∷ 0 ∷ 7 ∷ 0 ∷ 0 ∷ 0 ∷ [])
    ++ (10 ∷ 0 ∷ 1 ∷ 128 ∷ 0 ∷ 0 ∷ 1 ∷ 0 ∷ 7 ∷ 0 ∷ [])
    ++ (9 ∷ 0 ∷ 1 ∷ 0 ∷ 4 ∷ 9 ∷ 8 ∷ 7 ∷ 6 ∷ [])
    ++ (8 ∷ 0 ∷ 1 ∷ 0 ∷ 1 ∷ 0 ∷ 0 ∷ 0 ∷ [])
    ++ (16 ∷ 0 ∷ 1 ∷ 0 ∷ 1 ∷ 1 ∷ [])

-- two requests carry an age now, and all else is as it was
pub worked-night : converted night
    ≡ (18 ∷ 0 ∷ 2 ∷ 0 ∷ 1 ∷ 1 ∷ 0 ∷ 1 ∷ 0 ∷ 0 ∷ 0 ∷ 0 ∷ 100 ∷ 0 ∷ 0 ∷ 0 ∷ 0 ∷ 4 ∷ [])
    ++ (12 ∷ 0 ∷ 1 ∷ 128 ∷ 0 ∷ 0 ∷ 2 ∷ 0 ∷ 0 ∷ 0 ∷ 100 ∷ 0 ∷ [])
    ++ (14 ∷ 0 ∷ 2 ∷ 0 ∷ 1 ∷ 0 ∷ 0 ∷ 0 ∷ 17 ∷ 0 ∷ 7 ∷ 0 ∷ 0 ∷ 0 ∷ [])
    ++ (10 ∷ 0 ∷ 1 ∷ 128 ∷ 0 ∷ 0 ∷ 1 ∷ 0 ∷ 7 ∷ 0 ∷ [])
    ++ (11 ∷ 0 ∷ 2 ∷ 0 ∷ 4 ∷ 9 ∷ 8 ∷ 7 ∷ 0 ∷ 0 ∷ 6 ∷ [])
    ++ (8 ∷ 0 ∷ 1 ∷ 0 ∷ 1 ∷ 0 ∷ 0 ∷ 0 ∷ [])
    ++ (16 ∷ 0 ∷ 1 ∷ 0 ∷ 1 ∷ 1 ∷ [])
unfolding night converted aged_pair aged ageless word_bytes word_at length_field kind_field record_start record_of is_length starts_record record_in
    behind starts_pair pair_in cut_in cut joined
worked-night = refl

pub worked-change : changed night ≡ 2
unfolding night changed changes ageless word_at length_field kind_field is_length starts_record record_in behind starts_pair pair_in cut_in cut how_many
worked-change = refl

-- the old reading ends at a length in a request's place, and in the place of the reply to a request of eight bytes
pub worked-ends : map (λ (l : List ℕ). refuses l)
    ((126 ∷ 0 ∷ []) ∷ (127 ∷ []) ∷ (127 ∷ 0 ∷ []) ∷ (128 ∷ 0 ∷ 1 ∷ []) ∷ (129 ∷ 0 ∷ []) ∷ (127 ∷ 1 ∷ [])
    ∷ (8 ∷ 0 ∷ 1 ∷ 0 ∷ 4 ∷ 9 ∷ 9 ∷ 9 ∷ 128 ∷ 0 ∷ []) ∷ (8 ∷ 0 ∷ 1 ∷ 0 ∷ 4 ∷ 9 ∷ 9 ∷ 9 ∷ 129 ∷ 0 ∷ []) ∷ night ∷ [])
    ≡ false ∷ false ∷ true ∷ true ∷ false ∷ false ∷ true ∷ false ∷ false ∷ []
unfolding night refuses ends_long starts_long word_at length_field is_length starts_record record_in behind starts_pair pair_in cut_in cut
worked-ends = refl
