-- Laws of cutting: the pairs and what is left are the trace again; what is left starts no pair; and bytes that are added
-- behind change no pair that is whole. Assumes nothing.
use mathlib.Core.Path.{◌≡◌, refl, sym, ap, ◌∙◌}
use mathlib.Core.Bool.{Bool, true, false, ◌&&◌, false≢true}
use mathlib.Core.List.{List, [], ◌∷◌, ◌++◌, append_assoc}
use Prim.Native.Nat.{ℕ, zero, suc, ◌+◌, ◌-◌, ◌≤◌, ◌<◌}
use native.Mathlib.Omega.{arith}
use lib.Dec.{leb}
use lib.ListN.{length, take, drop, take-append-drop, length-append, length-drop, drop_of_length-le, get_or-append}
use lib.Seq.{take-append-le, drop-append-le, length-take-le}
use borrow.Author.Tests.{leb-true, leb-false, le-leb}
use Rattle.wire.specs.Words.{word_at}
use Rattle.wire.specs.Start.{shortest, is_length, length_field, starts_record, record_in, behind}
use Rattle.pairs.specs.Cut.{Pair, starts_pair, pair_in, pair_size, cut_in, cut, joined}

-- ---- tests as facts

pub both : (a b : Bool) → (a && b) ≡ true → (a ≡ true) × (b ≡ true)
both true b e = (refl, e)
both false b e = absurd (false≢true e)

pub not-both-ways : {b : Bool} → b ≡ true → b ≡ false → ⊥
not-both-ways e f = false≢true (sym f ∙ e)

pub refuted : {b : Bool} → (b ≡ true → ⊥) → b ≡ false
refuted {b = true} not = absurd (not refl)
refuted {b = false} not = refl

pub is-length : (most n : ℕ) → is_length most n ≡ true → (shortest ≤ n) × (n ≤ most)
unfolding is_length
is-length most n e = let w = both (leb shortest n) (leb n most) e in (leb-true _ _ w.0, leb-true _ _ w.1)

pub length-is : (most n : ℕ) → shortest ≤ n → n ≤ most → is_length most n ≡ true
unfolding is_length
length-is most n l m = rw (le-leb shortest n l, le-leb n most m)

-- a whole record is here
pub record WholeRecord (most : ℕ) (bytes : List ℕ) : Type 0 where
  pub least : shortest ≤ length_field bytes
  pub bound : length_field bytes ≤ most
  pub there : length_field bytes ≤ length bytes

pub whole : (most : ℕ) (bytes : List ℕ) → starts_record most bytes ≡ true → WholeRecord most bytes
unfolding starts_record
whole most bytes e =
    let w = both (is_length most (length_field bytes)) (leb (length_field bytes) (length bytes)) e in
    let l = is-length most (length_field bytes) w.0 in
    record { least = l.0; bound = l.1; there = leb-true _ _ w.1 }

pub starts : (most : ℕ) (bytes : List ℕ) → WholeRecord most bytes → starts_record most bytes ≡ true
unfolding starts_record
starts most bytes w = rw (length-is most (length_field bytes) w.least w.bound, le-leb _ _ w.there)

pub whole_pair : (most : ℕ) (bytes : List ℕ) → starts_pair most bytes ≡ true
    → WholeRecord most bytes × WholeRecord most (behind bytes)
unfolding starts_pair
whole_pair most bytes e =
    let w = both (starts_record most bytes) (starts_record most (behind bytes)) e in
    (whole most bytes w.0, whole most (behind bytes) w.1)

pub starts-pair : (most : ℕ) (bytes : List ℕ) → WholeRecord most bytes → WholeRecord most (behind bytes)
    → starts_pair most bytes ≡ true
unfolding starts_pair
starts-pair most bytes w v = rw (starts most bytes w, starts most (behind bytes) v)

-- ---- bytes added behind

pub behind-size : (bytes : List ℕ) → length (behind bytes) ≡ length bytes - length_field bytes
unfolding behind
behind-size bytes = length-drop (length_field bytes) bytes

behind-all : (bytes : List ℕ) → length bytes ≤ length_field bytes → behind bytes ≡ []
unfolding behind
behind-all bytes l = drop_of_length-le bytes l

module _ (a x : List ℕ) (two : 2 ≤ length a) where
  pub field-more : length_field (a ++ x) ≡ length_field a
  unfolding length_field word_at
  field-more = rw (get_or-append a x 0 0 (omega arith), get_or-append a x 0 1 (omega arith))

  pub record-more : length_field a ≤ length a → record_in (a ++ x) ≡ record_in a
  unfolding record_in
  record-more there = rw field-more (take-append-le (length_field a) a x there)

  pub behind_more : length_field a ≤ length a → behind (a ++ x) ≡ behind a ++ x
  unfolding behind
  behind_more there = rw field-more (drop-append-le (length_field a) a x there)

  whole-more : {most : ℕ} → WholeRecord most a → WholeRecord most (a ++ x)
  whole-more w =
      record {
        least = rw field-more w.least;
        bound = rw field-more w.bound;
        there = rw (field-more, length-append) (omega (arith, w.there));
      }

  whole-less : {most : ℕ} → WholeRecord most (a ++ x) → length_field a ≤ length a → WholeRecord most a
  whole-less w there = record { least = rw field-more at w.least; bound = rw field-more at w.bound; there = there }

pub at-least-two : {most : ℕ} {bytes : List ℕ} → WholeRecord most bytes → 2 ≤ length bytes
at-least-two w = omega (arith, w.least, w.there)

module _ (most : ℕ) (a x : List ℕ) (e : starts_pair most a ≡ true) where
  pub behind-both : behind (behind (a ++ x)) ≡ behind (behind a) ++ x
  behind-both =
      let w = whole_pair most a e in
      rw (behind_more a x (at-least-two w.0) w.0.there) (behind_more (behind a) x (at-least-two w.1) w.1.there)

  pub pair-more : pair_in (a ++ x) ≡ pair_in a
  unfolding pair_in
  pair-more =
      let w = whole_pair most a e in
      rw (
        record-more a x (at-least-two w.0) w.0.there,
        behind_more a x (at-least-two w.0) w.0.there,
        record-more
            (behind a) x (at-least-two w.1) w.1.there,
      )

  pub starts_more : starts_pair most (a ++ x) ≡ true
  starts_more =
      let w = whole_pair most a e in
      starts-pair most (a ++ x) (whole-more a x (at-least-two w.0) w.0)
      (rw (behind_more a x (at-least-two w.0) w.0.there) (whole-more (behind a) x (at-least-two w.1) w.1))

-- a pair that is whole without the bytes behind is one before they come
pub starts-less : (most : ℕ) (a x : List ℕ) → starts_pair most (a ++ x) ≡ true
    → length_field (a ++ x) + length_field (behind (a ++ x)) ≤ length a → starts_pair most a ≡ true
starts-less most a x e fits =
    let w = whole_pair most (a ++ x) e in
    let two : 2 ≤ length a = omega (arith, w.0.least) in
    let n : length_field (a ++ x) ≡ length_field a = field-more a x two in
    let there : length_field a ≤ length a = omega arith in
    let b : behind (a ++ x) ≡ behind a ++ x = behind_more a x two there in
    let size : length (behind a) ≡ length a - length_field a = behind-size a in
    let v : WholeRecord most (behind a ++ x) = rw b at w.1 in
    let m : length_field (behind (a ++ x)) ≡ length_field (behind a ++ x) = ap length_field b in
    let two' : 2 ≤ length (behind a) = omega (arith, v.least) in
    let n' : length_field (behind a ++ x) ≡ length_field (behind a) = field-more (behind a) x two' in
    starts-pair most a (whole-less a x two w.0 there) (whole-less (behind a) x two' v (omega arith))

-- where the bytes are as many as the pair has, they are that pair and no more
alone : (most : ℕ) (a x : List ℕ) → starts_pair most (a ++ x) ≡ true
    → length_field (a ++ x) + length_field (behind (a ++ x)) ≡ length a
    → (starts_pair most a ≡ true) × (behind (behind a) ≡ [])
alone most a x e size =
    let s : starts_pair most a ≡ true = starts-less most a x e (omega arith) in
    let w = whole_pair most a s in
    let n : length_field (a ++ x) ≡ length_field a = field-more a x (at-least-two w.0) in
    let b : behind (a ++ x) ≡ behind a ++ x = behind_more a x (at-least-two w.0) w.0.there in
    let m : length_field (behind (a ++ x)) ≡ length_field (behind a) = ap length_field b
    ∙ field-more (behind a) x (at-least-two w.1) in
    (s, behind-all (behind a) (omega (arith, behind-size a)))

-- the pair that starts here, alone
pub record Alone (most n : ℕ) (bytes : List ℕ) : Type 0 where
  pub inside : n ≤ length bytes
  pub starts : starts_pair most (take n bytes) ≡ true
  pub all : behind (behind (take n bytes)) ≡ []

pub size-some : (most : ℕ) (bytes : List ℕ) → starts_pair most bytes ≡ true
    → pair_size most bytes ≡ length_field bytes + length_field (behind bytes)
unfolding pair_size
size-some most bytes e = rw e

pub size_none : (most : ℕ) (bytes : List ℕ) → starts_pair most bytes ≡ false → pair_size most bytes ≡ 0
unfolding pair_size
size_none most bytes e = rw e

pub front-pair : (most : ℕ) (bytes : List ℕ) → 0 < pair_size most bytes → Alone most (pair_size most bytes) bytes
front-pair most bytes p = by (starts_pair most bytes) refl
  where
    n : ℕ
    n = pair_size most bytes

    by : (t : Bool) → starts_pair most bytes ≡ t → Alone most n bytes
    by true e =
        let w = whole_pair most bytes e in
        let inside : n ≤ length bytes = omega (arith, size-some most bytes e, w.0.there, w.1.there, behind-size bytes) in
        let whole : take n bytes ++ drop n bytes ≡ bytes = take-append-drop n bytes in
        let size : length (take n bytes) ≡ n = length-take-le n bytes inside in
        let a = alone most (take n bytes) (drop n bytes) (rw whole e) (rw whole (sym (size-some most bytes e) ∙ sym size)) in
        record { inside = inside; starts = a.0; all = a.1 }
    by false e = absurd (omega (arith, size_none most bytes e))

-- two records are at most twice the greatest length
pub none-so-long : (most : ℕ) (a : List ℕ) (b : ℕ) → most + most ≤ length a → starts_pair most a ≡ false
    → starts_pair most (a ++ b ∷ []) ≡ false
none-so-long most a b long none =
    refuted (λ e. let w = whole_pair most (a ++ b ∷ []) e in
    not-both-ways (starts-less most a (b ∷ []) e (omega (arith, w.0.bound, w.1.bound))) none)

-- one byte that makes a pair whole is its last
pub just-whole : (most : ℕ) (a : List ℕ) (b : ℕ) → starts_pair most a ≡ false → starts_pair most (a ++ b ∷ []) ≡ true
    → behind (behind (a ++ b ∷ [])) ≡ []
just-whole most a b e f = by (leb pair (length a)) refl
  where
    pair : ℕ
    pair = length_field (a ++ b ∷ []) + length_field (behind (a ++ b ∷ []))

    by : (t : Bool) → leb pair (length a) ≡ t → behind (behind (a ++ b ∷ [])) ≡ []
    by true l = absurd (not-both-ways (starts-less most a (b ∷ []) f (leb-true pair (length a) l)) e)
    by false l = behind-all (behind (a ++ b ∷ [])) (omega
        (arith, leb-false pair (length a) l, behind-size (a ++ b ∷ []), length-append a (b ∷ [])))

-- ---- the cut as a relation

pub data Cuts (most : ℕ) : List ℕ → List Pair → List ℕ → Type 0 where
  end : {bytes : List ℕ} → starts_pair most bytes ≡ false → Cuts most bytes [] bytes
  next : {bytes : List ℕ} {pairs : List Pair} {left : List ℕ} → starts_pair most bytes ≡ true
      → Cuts most (behind (behind bytes)) pairs left → Cuts most bytes (pair_in bytes ∷ pairs) left

pub nothing : (most : ℕ) → starts_pair most [] ≡ false
unfolding starts_pair starts_record is_length length_field word_at
nothing most = refl

pub shorter : (most : ℕ) (bytes : List ℕ) → starts_pair most bytes ≡ true → length (behind (behind bytes)) < length bytes
shorter most bytes e =
    let w = whole_pair most bytes e in
    omega (arith, behind-size (behind bytes), behind-size bytes, w.0.least, w.0.there)

cuts-in : (most turns : ℕ) (bytes : List ℕ) → length bytes ≤ turns
    → Cuts most bytes (cut_in most turns bytes).pairs (cut_in most turns bytes).left
unfolding cut_in
cuts-in most zero [] l = end (nothing most)
cuts-in most zero (b ∷ s) l = absurd (omega arith)
cuts-in most (suc turns) bytes l = by (starts_pair most bytes) refl (cuts-in most turns (behind (behind bytes)))
  where
    by : (t : Bool) → starts_pair most bytes ≡ t → (length (behind (behind bytes)) ≤ turns
        → Cuts most (behind (behind bytes)) (cut_in most turns (behind (behind bytes))).pairs
        (cut_in most turns (behind (behind bytes))).left)
        → Cuts most bytes (cut_in most (suc turns) bytes).pairs (cut_in most (suc turns) bytes).left
    by true e further = rw e (next e (further (omega (arith, shorter most bytes e))))
    by false e further = rw e (end e)

pub cuts : (most : ℕ) (bytes : List ℕ) → Cuts most bytes (cut most bytes).pairs (cut most bytes).left
unfolding cut
cuts most bytes = cuts-in most (length bytes) bytes (omega arith)

-- there is one way only
pub same-cut : {most : ℕ} {bytes : List ℕ} {pairs pairs' : List Pair} {left left' : List ℕ} → Cuts most bytes pairs left
    → Cuts most bytes pairs' left' → (pairs ≡ pairs') × (left ≡ left')
same-cut (end e) (end f) = (refl, refl)
same-cut (end e) (next f c) = absurd (not-both-ways f e)
same-cut (next e c) (end f) = absurd (not-both-ways e f)
same-cut {bytes = bytes} (next e c) (next f d) = let w = same-cut c d in (ap (λ (ps : List Pair). pair_in bytes ∷ ps) w.0, w.1)

-- ---- the laws

pub split : (bytes : List ℕ) → record_in bytes ++ behind bytes ≡ bytes
unfolding record_in behind
split bytes = take-append-drop (length_field bytes) bytes

-- what is left starts no pair
none_left : {most : ℕ} {bytes : List ℕ} {pairs : List Pair} {left : List ℕ} → Cuts most bytes pairs left
    → starts_pair most left ≡ false
none_left (end e) = e
none_left (next e c) = none_left c

pub left-starts-none : (most : ℕ) (bytes : List ℕ) → starts_pair most (cut most bytes).left ≡ false
left-starts-none most bytes = none_left (cuts most bytes)

-- the pairs and what is left are the trace
rejoined : {most : ℕ} {bytes : List ℕ} {pairs : List Pair} {left : List ℕ} → Cuts most bytes pairs left
    → joined pairs ++ left ≡ bytes
unfolding joined pair_in
rejoined (end e) = refl
rejoined {bytes = bytes} (next e c) = simp append_assoc (rw (rejoined c, split (behind bytes), split bytes))

pub put-together : (most : ℕ) (bytes : List ℕ) → joined (cut most bytes).pairs ++ (cut most bytes).left ≡ bytes
put-together most bytes = rejoined (cuts most bytes)

-- bytes added behind: the pairs stay, and the reading goes on with what was left
further : {most : ℕ} {bytes : List ℕ} {pairs pairs' : List Pair} {left left' : List ℕ} (x : List ℕ)
    → Cuts most bytes pairs left → Cuts most (left ++ x) pairs' left' → Cuts most (bytes ++ x) (pairs ++ pairs') left'
further x (end e) d = d
further {most} {bytes} x (next e c) d = rw (← pair-more most bytes x e)
    (next (starts_more most bytes x e) (rw (← behind-both most bytes x e) at (further x c d)))

pub cut-more : (most : ℕ) (bytes x : List ℕ) → ((cut most (bytes ++ x)).pairs
    ≡ (cut most bytes).pairs ++ (cut most ((cut most bytes).left ++ x)).pairs)
    × ((cut most (bytes ++ x)).left ≡ (cut most ((cut most bytes).left ++ x)).left)
cut-more most bytes x = same-cut (cuts most (bytes ++ x)) (further x (cuts most bytes) (cuts most ((cut most bytes).left ++ x)))

-- where no pair starts nothing is cut off; where one is all that there is, it is the only one
pub cut-none : (most : ℕ) (bytes : List ℕ) → starts_pair most bytes ≡ false
    → ((cut most bytes).pairs ≡ []) × ((cut most bytes).left ≡ bytes)
cut-none most bytes e = same-cut (cuts most bytes) (end e)

pub cut-one : (most : ℕ) (bytes : List ℕ) → starts_pair most bytes ≡ true → behind (behind bytes) ≡ []
    → ((cut most bytes).pairs ≡ pair_in bytes ∷ []) × ((cut most bytes).left ≡ [])
cut-one most bytes e all = same-cut (cuts most bytes) (next e (rw all (end (nothing most))))
