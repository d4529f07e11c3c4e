-- Traces worked through the definitions. The door here answers a request by the request itself, so that no surface has to
-- be composed to read them. Assumes nothing.
use Rattle.std.specs.Prelude.{◌≡◌, refl, List, [], ◌∷◌, ◌++◌, map, ℕ, ◌-◌, replicate}
use Rattle.wire.specs.Words.{word_at}
use Rattle.wire.specs.Start.{is_length, length_field, starts_record, record_in, behind}
use Rattle.pairs.specs.Cut.{longest_record, starts_pair, pair_in, cut_in, cut}
use Rattle.feed.specs.Feed.{how_many}
use Rattle.spell.specs.Decimal.{digits_of, digits, named}
use Rattle.fives.specs.declared.Five.{Five}
use Rattle.fives.specs.Replay.{same_bytes, agrees, differs, first_from, five}
use Rattle.fives.specs.Lines.{five_lines}

unfoldable pub echo : List ℕ → List ℕ
echo request = request

-- a record of n bytes that ends in a given byte
unfoldable pub sized : ℕ → ℕ → List ℕ
sized n last = n ∷ 0 ∷ replicate (n - 3) 0 ++ last ∷ []

pub record Night : Type 0 where
  pub trace : List ℕ
  pub calls : ℕ
  pub same : ℕ
  pub differ : ℕ
  pub first : ℕ
  pub rest : ℕ

unfoldable pub nights : List Night
nights =
    -- "An empty trace gives" five zeros
    record { trace = []; calls = 0; same = 0; differ = 0; first = 0; rest = 0 }
    -- the second pair differs, in its last byte; then none, so `first` stays
    ∷ record {
      trace = sized 8 0 ++ sized 8 0 ++ sized 8 0 ++ sized 8 1 ++ sized 8 1 ++ sized 8 0 ++ sized 9 0 ++ sized 9 0;
      calls = 4;
      same = 2;
      differ = 2;
      first = 2;
      rest = 0;
    }
    -- a reply that is longer, or shorter, than today's differs
    ∷ record { trace = sized 8 0 ++ 9 ∷ 0 ∷ replicate 7 0; calls = 1; same = 0; differ = 1; first = 1; rest = 0 }
    ∷ record { trace = sized 9 0 ++ sized 8 0; calls = 1; same = 0; differ = 1; first = 1; rest = 0 }
    -- a pair cut off in its reply, between its records, and in its first length: `rest` is from its start
    ∷ record {
      trace = sized 8 0 ++ sized 8 0 ++ sized 8 0 ++ 8 ∷ 0 ∷ 1 ∷ [];
      calls = 1;
      same = 1;
      differ = 0;
      first = 0;
      rest = 11;
    }
    ∷ record { trace = sized 8 0; calls = 0; same = 0; differ = 0; first = 0; rest = 8 }
    ∷ record { trace = 8 ∷ []; calls = 0; same = 0; differ = 0; first = 0; rest = 1 }
    -- the lengths 8 and 128 are taken, 7 and 129 end the reading, and nothing after that is read
    ∷ record { trace = sized 8 0 ++ sized 128 0; calls = 1; same = 0; differ = 1; first = 1; rest = 0 }
    ∷ record { trace = sized 128 0 ++ sized 128 0; calls = 1; same = 1; differ = 0; first = 0; rest = 0 }
    ∷ record { trace = sized 7 0 ++ sized 8 0 ++ sized 8 0; calls = 0; same = 0; differ = 0; first = 0; rest = 23 }
    ∷ record { trace = sized 8 0 ++ sized 129 0 ++ sized 8 0; calls = 0; same = 0; differ = 0; first = 0; rest = 145 }
    -- the length is little-endian: 2048
    ∷ record { trace = 0 ∷ 8 ∷ replicate 30 0; calls = 0; same = 0; differ = 0; first = 0; rest = 32 }
    ∷ []

unfoldable pub stated : Night → Five
stated n = record { calls = n.calls; same = n.same; differ = n.differ; first = n.first; rest = n.rest }

pub as-stated : map (λ (n : Night). five longest_record echo n.trace) nights ≡ map stated nights
unfolding echo sized nights stated word_at length_field is_length starts_record record_in behind starts_pair pair_in
    cut_in cut same_bytes agrees differs how_many first_from five
as-stated = refl

-- "calls 200", "same 178", "differ 22", "first 9", "rest 0", a line each
pub lines-as-stated : five_lines (record { calls = 200; same = 178; differ = 22; first = 9; rest = 0 })
    ≡ 99 ∷ 97 ∷ 108 ∷ 108 ∷ 115 ∷ 32 ∷ 50 ∷ 48 ∷ 48 ∷ 10
    ∷ 115 ∷ 97 ∷ 109 ∷ 101 ∷ 32 ∷ 49 ∷ 55 ∷ 56 ∷ 10
    ∷ 100 ∷ 105 ∷ 102 ∷ 102 ∷ 101 ∷ 114 ∷ 32 ∷ 50 ∷ 50 ∷ 10
    ∷ 102 ∷ 105 ∷ 114 ∷ 115 ∷ 116 ∷ 32 ∷ 57 ∷ 10
    ∷ 114 ∷ 101 ∷ 115 ∷ 116 ∷ 32 ∷ 48 ∷ 10 ∷ []
unfolding five_lines named digits digits_of
lines-as-stated = refl
