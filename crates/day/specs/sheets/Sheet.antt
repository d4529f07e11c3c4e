-- The daily sheet "from the recorded replies", of the whole trace, by the words of ticket 12 (rule Daily sheet). `most` is the
-- greatest length of a record. That it is the fold of its pairs is in proofs/Adding.antt. Assumes nothing.
use Rattle.std.specs.Prelude.{Bool, true, false, not, cond, ◌&&◌, ◌||◌, List, [], ◌∷◌, ◌++◌, ℕ, zero, suc, ◌+◌, ◌*◌, eqb, ltb, ℤ, pos, length, get_or}
use Rattle.std.specs.Int.Signed.{lt_z}
use Rattle.wire.specs.Words.{number_at}
use Rattle.wire.specs.Start.{kind_field, start}
use Rattle.replies.specs.Reply.{reply_kind}
use Rattle.pairs.specs.Cut.{Pair, cut}
use Rattle.feed.specs.Feed.{capped, how_many}
use Rattle.day.specs.declared.sheets.Span.{Span}
use Rattle.day.specs.declared.sheets.Sheet.{Sheet}

-- f k, f (k + 1) and so on, so many of them
unfoldable pub in_turn : {A : Type 0} → (ℕ → A) → ℕ → ℕ → List A
in_turn f k zero = []
in_turn f k (suc n) = f k ∷ in_turn f (suc k) n

-- ---- a reply

-- "number, place, count, a zero byte, then the rounded points, two bytes signed each" (rule Records; 02, ticket 1)
abbrev pub number_of : List ℕ → ℕ
number_of reply = get_or reply 4 0

abbrev pub count_of : List ℕ → ℕ
count_of reply = get_or reply 6 0

unfoldable pub points_in : List ℕ → List ℤ
points_in reply = in_turn (number_at reply start) 0 (count_of reply)

-- the greatest number of a reply that is not odd
abbrev pub greatest : ℕ
greatest = 10

-- "Odd is a reply of another kind, a number above 10, a length other than 8 + 2·count, or a count other than 0 on a refusal."
unfoldable pub is_odd : List ℕ → Bool
is_odd reply =
    not (eqb (kind_field reply) reply_kind)
    || (ltb greatest (number_of reply)
    || (not (eqb (length reply) (8 + 2 * count_of reply))
    || (not (eqb (number_of reply) 0) && not (eqb (count_of reply) 0))))

-- ---- the replies of pairs

unfoldable pub odd_pair : Pair → Bool
odd_pair pair = is_odd pair.reply

-- "An odd reply adds to `odd` and to nothing else."
unfoldable pub of_number : ℕ → Pair → Bool
of_number n pair = not (is_odd pair.reply) && eqb (number_of pair.reply) n

-- "over accepted points": a refusal that is not odd has none
unfoldable pub points_of : Pair → List ℤ
points_of pair = cond (is_odd pair.reply) [] (points_in pair.reply)

unfoldable pub points : List Pair → List ℤ
points [] = []
points (pair ∷ pairs) = points_of pair ++ points pairs

-- ---- the least and the most, "`none` where there are none"

unfoldable pub lesser : ℤ → ℤ → ℤ
lesser a b = cond (lt_z b a) b a

unfoldable pub greater : ℤ → ℤ → ℤ
greater a b = cond (lt_z a b) b a

-- one point more
unfoldable pub widened : Span → ℤ → Span
widened s z =
    record {
      some = true;
      least = cond s.some (lesser s.least z) z;
      most = cond s.some (greater s.most z) z;
    }

unfoldable pub widened_all : Span → List ℤ → Span
widened_all s [] = s
widened_all s (z ∷ zs) = widened_all (widened s z) zs

abbrev pub no_span : Span
no_span = record { some = false; least = pos 0; most = pos 0 }

-- ---- the sheet

-- numbers are counted in 64 bits and stay at the greatest of these
unfoldable pub sheet_of : List Pair → Sheet
sheet_of pairs =
    record {
      odd = capped (how_many odd_pair pairs);
      refusals = in_turn (λ n. capped (how_many (of_number n) pairs)) 0 (suc greatest);
      span = widened_all no_span (points pairs);
    }

-- of a trace: "Reading ends as in the replay; a cut pair adds nothing"
unfoldable pub sheet_in : ℕ → List ℕ → Sheet
sheet_in most bytes = sheet_of (cut most bytes).pairs
