-- Whole records: one at the front of some bytes, two at the front, and a request that becomes one with an age. Assumes nothing.
use mathlib.Core.Path.{◌≡◌, refl, sym, ap, ◌∙◌}
use mathlib.Core.Bool.{Bool, true, false}
use mathlib.Core.List.{List, [], ◌∷◌, ◌++◌}
use Prim.Native.Nat.{ℕ, ◌+◌, ◌≤◌, ◌/◌, ◌%◌}
use native.Mathlib.Nat.{div-add-mod'}
use native.Mathlib.Omega.{arith}
use lib.ListN.{length, length-append, drop_of_length-le}
use lib.Seq.{take_all, length-take-le}
use borrow.Author.Tests.{eqb-true}
use Rattle.wire.specs.Words.{word_at, word_bytes}
use Rattle.wire.specs.Start.{shortest, length_field, kind_field, record_start, record_of, record_in, behind}
use Rattle.pairs.specs.Cut.{longest_record, Pair, starts_pair, pair_in}
use Rattle.pairs.proofs.Cutting.{WholeRecord, starts-pair, field-more, record-more, behind_more, split, Cuts, next}
use Rattle.judgement.specs.Record.{request_kind}
use Rattle.aging.specs.Convert.{former_longest, ageless, aged}

-- all of it is one whole record
pub record IsRecord (most : ℕ) (q : List ℕ) : Type 0 where
  pub least : shortest ≤ length q
  pub bound : length q ≤ most
  pub field : length_field q ≡ length q

pub record_of_lem : (most : ℕ) (bytes : List ℕ) → WholeRecord most bytes → IsRecord most (record_in bytes)
unfolding record_in
record_of_lem most bytes w =
    let size : length (record_in bytes) ≡ length_field bytes = length-take-le (length_field bytes) bytes w.there in
    let two : 2 ≤ length (record_in bytes) = omega (arith, w.least) in
    let same : length_field bytes ≡ length_field (record_in bytes) =
    ap length_field (sym (split bytes)) ∙ field-more (record_in bytes) (behind bytes) two in
    record { least = omega (arith, w.least); bound = omega (arith, w.bound); field = sym same ∙ sym size }

pub longer : {q : List ℕ} → IsRecord former_longest q → IsRecord longest_record q
longer r = record { least = r.least; bound = omega (arith, r.bound); field = r.field }

-- a record at the front
module _ {most : ℕ} {q : List ℕ} (r : IsRecord most q) (y : List ℕ) where
  two : 2 ≤ length q
  two = omega (arith, r.least)

  there : length_field q ≤ length q
  there = omega (arith, r.field)

  pub front-field : length_field (q ++ y) ≡ length q
  front-field = field-more q y two ∙ r.field

  front-record : record_in (q ++ y) ≡ q
  unfolding record_in
  front-record = record-more q y two there ∙ rw r.field (take_all (length q) q (omega arith))

  pub front-behind : behind (q ++ y) ≡ y
  unfolding behind
  front-behind = behind_more q y two there ∙ rw (r.field, drop_of_length-le q {i = length q} (omega arith))

  front-whole : WholeRecord most (q ++ y)
  front-whole = record {
    least = rw front-field r.least;
    bound = rw front-field r.bound;
    there = rw (front-field, length-append) (omega arith);
  }

-- a pair of them at the front is the first that is cut off
module _ {most : ℕ} {q p : List ℕ} (r : IsRecord most q) (t : IsRecord most p) (y : List ℕ) where
  pair-front : pair_in (q ++ (p ++ y)) ≡ record { request = q; reply = p }
  unfolding pair_in
  pair-front = rw (front-behind r (p ++ y), front-record t y, front-record r (p ++ y))

  starts-front : starts_pair most (q ++ (p ++ y)) ≡ true
  starts-front = starts-pair most (q ++ (p ++ y)) (front-whole r (p ++ y)) (rw (front-behind r (p ++ y)) (front-whole t y))

  behind-front : behind (behind (q ++ (p ++ y))) ≡ y
  behind-front = rw (front-behind r (p ++ y)) (front-behind t y)

  pub pair-next : {left : List ℕ} {pairs : List Pair} → Cuts most y pairs left
      → Cuts most (q ++ (p ++ y)) (record { request = q; reply = p } ∷ pairs) left
  pair-next {left} {pairs} c =
      let further : Cuts most (behind (behind (q ++ (p ++ y)))) pairs left = rw behind-front c in
      rw (← pair-front) (next starts-front further)

-- ---- a request of kind 0x0001, byte by byte

-- the request that it becomes
abbrev pub with_age : ℕ → ℕ → ℕ → ℕ → List ℕ → List ℕ
with_age e f g h s = (10 + length s) % 256 ∷ (10 + length s) / 256 ∷ 2 ∷ 0 ∷ e ∷ f ∷ g ∷ h ∷ 0 ∷ 0 ∷ s

-- what a whole request is
pub data Request : List ℕ → Type 0 where
  other : {q : List ℕ} → ageless q ≡ false → aged q ≡ q → Request q
  without : {a b c d e f g h : ℕ} {s : List ℕ} → kind_field (a ∷ b ∷ c ∷ d ∷ e ∷ f ∷ g ∷ h ∷ s) ≡ request_kind
      → aged (a ∷ b ∷ c ∷ d ∷ e ∷ f ∷ g ∷ h ∷ s) ≡ with_age e f g h s
      → Request (a ∷ b ∷ c ∷ d ∷ e ∷ f ∷ g ∷ h ∷ s)

aged-same : (q : List ℕ) → ageless q ≡ false → aged q ≡ q
unfolding aged
aged-same q e = rw e

module _ (a b c d e f g h : ℕ) (s : List ℕ) where
  abbrev bytes : List ℕ
  bytes = a ∷ b ∷ c ∷ d ∷ e ∷ f ∷ g ∷ h ∷ s

  aged-is : ageless bytes ≡ true → aged bytes ≡ with_age e f g h s
  unfolding aged record_of record_start word_bytes
  aged-is k =
      let n : 4 + length (e ∷ f ∷ g ∷ h ∷ 0 ∷ 0 ∷ s) ≡ 10 + length s = omega arith in
      rw (k, n)

  kind-is : ageless bytes ≡ true → kind_field bytes ≡ request_kind
  unfolding ageless
  kind-is k = eqb-true (kind_field bytes) request_kind k

  either : Request bytes
  either = by (ageless bytes) refl
    where
      by : (t : Bool) → ageless bytes ≡ t → Request bytes
      by true k = without (kind-is k) (aged-is k)
      by false k = other k (aged-same bytes k)

pub request-is : (q : List ℕ) → shortest ≤ length q → Request q
request-is [] l = absurd (omega arith)
request-is (a ∷ []) l = absurd (omega arith)
request-is (a ∷ b ∷ []) l = absurd (omega arith)
request-is (a ∷ b ∷ c ∷ []) l = absurd (omega arith)
request-is (a ∷ b ∷ c ∷ d ∷ []) l = absurd (omega arith)
request-is (a ∷ b ∷ c ∷ d ∷ e ∷ []) l = absurd (omega arith)
request-is (a ∷ b ∷ c ∷ d ∷ e ∷ f ∷ []) l = absurd (omega arith)
request-is (a ∷ b ∷ c ∷ d ∷ e ∷ f ∷ g ∷ []) l = absurd (omega arith)
request-is (a ∷ b ∷ c ∷ d ∷ e ∷ f ∷ g ∷ h ∷ s) l = either a b c d e f g h s

-- its length field says its length
pub age-field : (e f g h : ℕ) (s : List ℕ) → length_field (with_age e f g h s) ≡ length (with_age e f g h s)
unfolding length_field word_at
age-field e f g h s = omega (arith, div-add-mod' (10 + length s) 256)

-- it is a whole record again, at most two bytes longer
pub record Grown (q : List ℕ) : Type 0 where
  pub field : length_field (aged q) ≡ length (aged q)
  pub least : length q ≤ length (aged q)
  pub most : length (aged q) ≤ length q + 2

grows : {q : List ℕ} → length_field q ≡ length q → Request q → Grown q
grows is (other k e) = record { field = rw e is; least = rw e (omega arith); most = rw e (omega arith) }
grows is (without {e = e} {f} {g} {h} {s} k q) = record {
  field = rw q (age-field e f g h s);
  least = rw q (omega arith);
  most = rw q (omega arith);
}

pub aged-grown : {q : List ℕ} → IsRecord former_longest q → Grown q
aged-grown {q} r = grows r.field (request-is q r.least)

pub aged-record : {q : List ℕ} → IsRecord former_longest q → IsRecord longest_record (aged q)
aged-record {q} r =
    let g = aged-grown r in
    record { least = omega (arith, g.least, r.least); bound = omega (arith, g.most, r.bound); field = g.field }

-- and it carries an age, so that nothing more becomes of it
carries : (e f g h : ℕ) (s : List ℕ) → ageless (with_age e f g h s) ≡ false
unfolding ageless kind_field word_at
carries e f g h s = refl

stays : {q : List ℕ} → Request q → aged (aged q) ≡ aged q
stays (other k e) = ap aged e
stays (without {e = e} {f} {g} {h} {s} k q) = rw q (aged-same (with_age e f g h s) (carries e f g h s))

pub aged-again : (q : List ℕ) → shortest ≤ length q → aged (aged q) ≡ aged q
aged-again q l = stays (request-is q l)
