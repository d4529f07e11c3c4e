-- Pairs that are whole, one after the other, are cut into just these pairs, and nothing is left. Assumes nothing.
use mathlib.Core.Path.{◌≡◌, sym, ap, ◌∙◌}
use mathlib.Core.Bool.{true}
use mathlib.Core.List.{List, [], ◌∷◌, ◌++◌, append_assoc}
use Prim.Native.Nat.{ℕ, ◌<◌}
use native.Mathlib.Omega.{arith}
use lib.ListN.{length, take, drop, take-append-drop}
use lib.Seq.{take-add}
use Rattle.wire.specs.Start.{record_in, behind}
use Rattle.pairs.specs.Cut.{Pair, starts_pair, pair_in, pair_size, cut, joined}
use Rattle.pairs.proofs.Cutting.{nothing, whole_pair, starts_more, pair-more, behind-both, size-some, front-pair}
use Rattle.pairs.proofs.Cutting.{Cuts, end, next, cuts, same-cut}

-- a pair as bytes
abbrev pub pair_bytes : Pair → List ℕ
pair_bytes pair = pair.request ++ pair.reply

-- a pair that is whole, alone and before whatever comes behind it
pub record WholePair (most : ℕ) (pair : Pair) : Type 0 where
  pub starts : starts_pair most (pair_bytes pair) ≡ true
  pub is : pair_in (pair_bytes pair) ≡ pair
  pub all : behind (behind (pair_bytes pair)) ≡ []

pub data AllWhole (most : ℕ) : List Pair → Type 0 where
  none : AllWhole most []
  more : {pair : Pair} {pairs : List Pair} → WholePair most pair → AllWhole most pairs → AllWhole most (pair ∷ pairs)

-- the pair that starts here
module _ (most : ℕ) (bytes : List ℕ) (e : starts_pair most bytes ≡ true) where
  pub some_bytes : 0 < pair_size most bytes
  some_bytes = omega (arith, size-some most bytes e, (whole_pair most bytes e).0.least)

  pub front-is : take (pair_size most bytes) bytes ≡ pair_bytes (pair_in bytes)
  unfolding pair_in record_in behind
  front-is = rw (size-some most bytes e, take-add)

  pub pair-whole : WholePair most (pair_in bytes)
  pair-whole =
      let n = pair_size most bytes in
      let a = front-pair most bytes some_bytes in
      let same : pair_in bytes ≡ pair_in (take n bytes) =
      ap pair_in (sym (take-append-drop n bytes)) ∙ pair-more most (take n bytes) (drop n bytes) a.starts in
      record {
        starts = rw (← front-is) a.starts;
        is = rw (← front-is) (sym same);
        all = rw (← front-is) a.all;
      }

  pub pair_then : pair_bytes (pair_in bytes) ++ behind (behind bytes) ≡ bytes
  unfolding pair_in record_in behind
  pair_then = rw (append_assoc, take-append-drop, take-append-drop)

-- whatever comes behind a whole pair
module _ {most : ℕ} {pair : Pair} (w : WholePair most pair) (x : List ℕ) where
  pub whole-starts : starts_pair most (pair_bytes pair ++ x) ≡ true
  whole-starts = starts_more most (pair_bytes pair) x w.starts

  pub whole_is : pair_in (pair_bytes pair ++ x) ≡ pair
  whole_is = pair-more most (pair_bytes pair) x w.starts ∙ w.is

  pub whole-behind : behind (behind (pair_bytes pair ++ x)) ≡ x
  whole-behind = behind-both most (pair_bytes pair) x w.starts ∙ ap (λ (l : List ℕ). l ++ x) w.all

  pub whole-some : 0 < length (pair_bytes pair)
  whole-some =
      let v = whole_pair most (pair_bytes pair) w.starts in
      omega (arith, v.0.least, v.0.there)

-- ---- cutting

joined-cuts : {most : ℕ} {pairs : List Pair} → AllWhole most pairs → Cuts most (joined pairs) pairs []
unfolding joined
joined-cuts {most} none = end (nothing most)
joined-cuts {most} (more {pair} {pairs} w all) =
    let x = joined pairs in
    let further : Cuts most (behind (behind (pair_bytes pair ++ x))) pairs [] = rw (whole-behind w x) (joined-cuts all) in
    rw (whole_is w x) at (next (whole-starts w x) further)

pub joined-cut : (most : ℕ) (pairs : List Pair) → AllWhole most pairs
    → ((cut most (joined pairs)).pairs ≡ pairs) × ((cut most (joined pairs)).left ≡ [])
joined-cut most pairs all = same-cut (cuts most (joined pairs)) (joined-cuts all)
