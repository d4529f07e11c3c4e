-- What a told night says of the trace: a pair's number is one more than how many pairs stand before it, and its offset how many bytes these
-- are; the numbers are those of the replay; and the offset at which the reading ended, with the bytes that are left, is the whole trace.
-- Assumes nothing.
use mathlib.Core.Path.{◌≡◌, refl, ap, ◌∙◌}
use mathlib.Core.Bool.{Bool, true, false, not, cond}
use mathlib.Core.List.{List, [], ◌∷◌, ◌++◌}
use Prim.Native.Nat.{ℕ, suc, ◌+◌}
use native.Mathlib.Omega.{arith}
use lib.ListN.{length, length-append}
use Rattle.pairs.specs.Cut.{Pair, longest_record, cut, joined}
use Rattle.pairs.proofs.Cutting.{put-together}
use Rattle.door.specs.Contract.{reply_of}
use Rattle.feed.specs.Feed.{capped, folded, how_many, feed_of}
use Rattle.fives.specs.Replay.{agrees, differs, five, capped_five}
use Rattle.door.specs.tally.Read.{replayed}
use Rattle.night.specs.listing.Tale.{Tale, untold, asked, differing, tells, tale_of}

module _ (door : List ℕ → List ℕ) (wanted : ℕ) where
  calls-from : (pairs : List Pair) (t : Tale) (n : ℕ) → t.calls ≡ capped n
      → (folded (tells door wanted) t pairs).calls ≡ capped (n + length pairs)
  unfolding folded tells
  calls-from [] t n e = omega arith
  calls-from (pair ∷ pairs) t n e =
      calls-from pairs (tells door wanted t pair) (n + 1) (omega arith) ∙ ap capped (omega arith)

  offset-from : (pairs : List Pair) (t : Tale) (n : ℕ) → t.offset ≡ capped n
      → (folded (tells door wanted) t pairs).offset ≡ capped (n + length (joined pairs))
  unfolding folded tells joined
  offset-from [] t n e = omega arith
  offset-from (pair ∷ pairs) t n e =
      let a = length pair.request in
      let b = length pair.reply in
      let size : n + a + b + length (joined pairs) ≡ n + length (pair.request ++ pair.reply ++ joined pairs) =
      rw (length-append, length-append) (omega arith) in
      offset-from pairs (tells door wanted t pair) (n + a + b) (omega arith) ∙ ap capped size

  -- what stands before a pair is all that its number and its offset depend on
  pub calls_at : (pairs : List Pair) → (folded (tells door wanted) untold pairs).calls ≡ capped (length pairs)
  calls_at pairs = calls-from pairs untold 0 refl ∙ ap capped (omega arith)

  pub offset_at : (pairs : List Pair) → (folded (tells door wanted) untold pairs).offset ≡ capped (length (joined pairs))
  offset_at pairs = offset-from pairs untold 0 refl ∙ ap capped (omega arith)

  pub whole-trace : (bytes : List ℕ)
      → capped ((tale_of door wanted bytes).gathered.offset + (tale_of door wanted bytes).rest) ≡ capped (length bytes)
  unfolding tale_of feed_of
  whole-trace bytes =
      let left = (cut longest_record bytes).left in
      let pairs = (cut longest_record bytes).pairs in
      omega (arith, offset_at pairs, length-append (joined pairs) left, ap length (put-together longest_record bytes))

-- where each pair is asked for, as many are listed as differ
one_more : (alike : Bool) (number n d : ℕ) → d ≡ capped n → differing 0 alike number d ≡ capped (n + cond (not alike) 1 0)
unfolding differing asked
one_more true number n d e = omega arith
one_more false number n d e = omega arith

so-many : (alike : Bool) (n k : ℕ) → n + cond (not alike) 1 0 + k ≡ n + cond (not alike) (suc k) k
so-many true n k = omega arith
so-many false n k = omega arith

module _ (door : List ℕ → List ℕ) where
  differ-from : (pairs : List Pair) (t : Tale) (n : ℕ) → t.differ ≡ capped n
      → (folded (tells door 0) t pairs).differ ≡ capped (n + how_many (differs door) pairs)
  unfolding folded tells how_many differs
  differ-from [] t n e = omega arith
  differ-from (pair ∷ pairs) t n e =
      differ-from pairs (tells door 0 t pair) (n + cond (differs door pair) 1 0) (one_more (agrees door pair) _ n _ e)
      ∙ ap capped (so-many (agrees door pair) n (how_many (differs door) pairs))

  pub differ-at : (pairs : List Pair) → (folded (tells door 0) untold pairs).differ ≡ capped (how_many (differs door) pairs)
  differ-at pairs = differ-from pairs untold 0 refl ∙ ap capped (omega arith)

-- ---- the numbers are the replay's

pub same-calls : (wanted : ℕ) (bytes : List ℕ) → (tale_of reply_of wanted bytes).gathered.calls ≡ (replayed bytes).calls
unfolding tale_of feed_of replayed capped_five five
same-calls wanted bytes = calls_at reply_of wanted (cut longest_record bytes).pairs

pub same-differ : (bytes : List ℕ) → (tale_of reply_of 0 bytes).gathered.differ ≡ (replayed bytes).differ
unfolding tale_of feed_of replayed capped_five five
same-differ bytes = differ-at reply_of (cut longest_record bytes).pairs

pub same_rest : (wanted : ℕ) (bytes : List ℕ) → (tale_of reply_of wanted bytes).rest ≡ (replayed bytes).rest
unfolding tale_of feed_of replayed capped_five five
same_rest wanted bytes = refl
