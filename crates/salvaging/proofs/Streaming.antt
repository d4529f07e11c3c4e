-- Laws of what went out: what lies ahead in a window, one stretch after the other, parts that were read, and the end. Assumes nothing.
use mathlib.Core.Path.{◌≡◌, refl, sym, ap, ◌∙◌}
use mathlib.Core.Bool.{Bool, true, false, ◌||◌, false≢true}
use mathlib.Core.List.{List, [], ◌++◌, append-nil, append_assoc}
use Prim.Native.Nat.{ℕ, ◌+◌, ◌-◌, ◌≤◌}
use native.Mathlib.Omega.{arith}
use lib.ListN.{length, take, drop, length-append, length-take, length-drop, drop_of_length-le}
use lib.Seq.{drop-drop, take_all, take-append-add, length-take-le, sets, length-sets}
use borrow.Author.Tests.{le-ltb}
use Rattle.pairs.specs.Cut.{longest_record}
use Rattle.door.specs.Contract.{reply_of}
use Rattle.spell.proofs.Writing.{front_read}
use Rattle.torn.specs.Window.{skips_ahead, keeps_ahead, closed_line, line_after, from_after, lost_after, Stands}
use Rattle.torn.proofs.Going.{stands-none, stands_read, stands-last, stands-next, stands-over, skips-within, keeps-fits, rest-none, rest-small}
use Rattle.streams.specs.declared.Stream.{Stream}
use Rattle.streams.specs.Stream.{Through, through-none, through-more, Wrote, wrote_none, wrote-more}
use Rattle.salvaging.specs.declared.saver.Place.{Place}
use Rattle.salvaging.specs.declared.saver.Stretch.{Stretch}
use Rattle.salvaging.specs.saver.Ahead.{line_room, stretch_of, Leaves, closing, Closes}
use Rattle.salvaging.specs.declared.State.{State}
use Rattle.salvaging.specs.Salvaging.{Puts, Holds, Settles, Rests, Reads, Fills, Salvages}
use Rattle.salvaging.proofs.Sliding.{middle}

-- ---- one stretch

module _ (last : Bool) (window : List ℕ) (place : Place) (line line' : List ℕ) (next : Stretch)
    (leaves : Leaves (stretch_of last window place line) line' next) (room : line_room ≤ length line) where
  abbrev s : ℕ
  s = skips_ahead longest_record reply_of last window

  abbrev k : ℕ
  k = keeps_ahead longest_record reply_of (drop s window)

  abbrev line-told : List ℕ
  line-told = line_after place.from place.lost s k

  next-is : next ≡ record {
    skipped = s;
    kept = k;
    line = length line-told;
    place = record { from = from_after place.from place.lost s k; lost = lost_after place.lost s k };
  }
  unfolding stretch_of
  next-is = leaves.stretch_is ∙ rw (le-ltb (length line) line_room room)

  line_is : take next.line line' ≡ line-told
  unfolding stretch_of
  line_is =
      let is : line' ≡ sets line 0 line-told = leaves.line_is ∙ rw (le-ltb (length line) line_room room) in
      let size : next.line ≡ length line-told = ap (λ (r : Stretch). r.line) next-is in
      let fits : length line-told ≤ length line = omega (arith, leaves.within, ap length is ∙ length-sets line 0 line-told) in
      rw (is, size) (front_read line line-told fits)

  pub ahead_within : next.skipped + next.kept ≤ length window
  ahead_within = rw next-is (omega
      (arith, skips-within longest_record reply_of last window, keeps-fits longest_record reply_of (drop s window), length-drop s window))

  module _ (t t' : State) (place-was : t.place ≡ place)
      (puts : Puts next.place (take next.line line')
      (take (next.skipped + next.kept - next.skipped) (drop next.skipped window)) t t') where
    file-is : Wrote t.out (take k (drop s window)) t'.out
    file-is = let n : s + k - s ≡ k = omega arith in rw (next-is, n) at puts.file

    place_is : t'.place ≡ record { from = from_after place.from place.lost s k; lost = lost_after place.lost s k }
    place_is = puts.place_is ∙ ap (λ (r : Stretch). r.place) next-is

    holds-next : (out lines : Stream) (bytes : List ℕ) → Holds out lines last bytes window t
        → Holds out lines last bytes (drop k (drop s window)) t'
    holds-next out lines bytes h =
        let st : Stands longest_record reply_of last bytes h.file h.told place.from place.lost window =
        rw place-was at h.stands in
        record {
          file = h.file ++ take k (drop s window);
          told = h.told ++ line-told;
          stands = rw place_is (stands-next longest_record reply_of last st s refl refl);
          filed = wrote-more out h.file t.out _ t'.out h.filed file-is;
          said = wrote-more lines h.told t.lines _ t'.lines h.said (rw line_is at puts.told);
        }

    pub turn-settles : Settles last window t (next.skipped + next.kept) t'
    turn-settles = record {
      within = ahead_within;
      carried = λ out lines bytes h. rw (next-is, ← drop-drop k s window) (holds-next out lines bytes h);
    }

  -- where nothing lies ahead
  pub turn-rests : next.skipped + next.kept ≡ 0 → Rests last window
  turn-rests z =
      let none : s + k ≡ 0 = rw next-is at z in
      let first : skips_ahead longest_record reply_of last window ≡ 0 = omega arith in
      let second : keeps_ahead longest_record reply_of window ≡ 0 = rw first at (omega-k none) in
      record {
        over = λ e. rest-none longest_record reply_of window (rw e at first) second;
        small = λ e. rest-small longest_record reply_of window (omega arith) (rw e at first) second;
      }
    where
      omega-k : s + k ≡ 0 → k ≡ 0
      omega-k e = omega arith

-- ---- one after the other

pub settles-none : (last : Bool) (window : List ℕ) (t : State) → Settles last window t 0 t
settles-none last window t = record { within = omega arith; carried = λ out lines bytes h. h }

module _ (last : Bool) (window : List ℕ) {t t' : State} {at : ℕ} (p : Settles last window t at t') where
  rest_is : take (length window - at) (drop at window) ≡ drop at window
  rest_is = take_all (length window - at) (drop at window) (rw length-drop (omega arith))

  pub settles-more : {t'' : State} {n : ℕ} → Settles last (take (length window - at) (drop at window)) t' n t''
      → Settles last window t (at + n) t''
  settles-more {t''} {n} q =
      let r : Settles last (drop at window) t' n t'' = rw rest_is at q in
      record {
        within = omega (arith, p.within, r.within, length-drop at window);
        carried = λ out lines bytes h. rw (← drop-drop n at window) (r.carried out lines bytes (p.carried out lines bytes h));
      }

  pub rests-here : Rests last (take (length window - at) (drop at window)) → Rests last (drop at window)
  rests-here r = rw rest_is at r

  -- the window is over
  pub rests-over : length window ≤ at → Rests last (drop at window)
  rests-over l = rw (drop_of_length-le window l) (record { over = λ e. refl; small = λ e. omega arith })

-- ---- what was read

holds_read : (out lines : Stream) (bytes part window : List ℕ) (t : State) → Holds out lines false bytes window t
    → Holds out lines false (bytes ++ part) (window ++ part) t
holds_read out lines bytes part window t h =
    record { file = h.file; told = h.told; stands = stands_read longest_record reply_of part h.stands; filed = h.filed; said = h.said }

holds-last : (out lines : Stream) (bytes window : List ℕ) (t : State) → Holds out lines false bytes window t
    → Holds out lines true bytes window t
holds-last out lines bytes window t h =
    record { file = h.file; told = h.told; stands = stands-last longest_record reply_of true h.stands; filed = h.filed; said = h.said }

pub reads_none : (i : Stream) (window : List ℕ) (t : State) → Reads i window t i window t
reads_none i window t = record {
  part = [];
  went = through-none i;
  carried = λ out lines bytes h. rw append-nil h;
}

pub reads-one : (i i' : Stream) (window part after : List ℕ) (t t' : State) (at : ℕ) → Through i part i'
    → Settles false (window ++ part) t at t' → after ≡ drop at (window ++ part) → Reads i window t i' after t'
reads-one i i' window part after t t' at went settles e = record {
  part = part;
  went = went;
  carried = λ out lines bytes h. rw e (settles.carried out lines (bytes ++ part) (holds_read out lines bytes part window t h));
}

-- no more than a front was passed
pub within-front : (x : List ℕ) (n end : ℕ) → n ≤ length (take end x) → n ≤ end
within-front x n end l = omega (arith, length-take end x)

-- a part was read behind the bytes of a buffer that were not decided, and what is not decided of both slid to the front
part-read : (i i' : Stream) (before part after : List ℕ) (count n at : ℕ) (t t' : State) → count ≤ length before
    → n ≤ length part → Through i (take n part) i'
    → Settles false (take (count + n) (take count before ++ (part ++ drop (length before - count) (drop count before)))) t at t'
    → take (count + n - at) after
    ≡ take (count + n - at) (drop at (take count before ++ (part ++ drop (length before - count) (drop count before))))
    → Reads i (take count before) t i' (take (count + n - at) after) t'
part-read i i' before part after count n at t t' inside came went settles slid =
    let w = take count before in
    let over : drop (length before - count) (drop count before) ≡ [] =
    drop_of_length-le (drop count before) {i = length before - count} (rw length-drop (omega arith)) in
    let all : part ++ drop (length before - count) (drop count before) ≡ part = rw (over, append-nil) in
    let size : length w ≡ count = length-take-le count before inside in
    let front : take (count + n) (w ++ part) ≡ w ++ take n part =
    ap (λ (k : ℕ). take (k + n) (w ++ part)) (sym size) ∙ take-append-add w part n in
    let here : Settles false (w ++ take n part) t at t' = rw (all, front) at settles in
    let within : at ≤ count + n =
    omega (arith, here.within, length-append w (take n part), length-take-le n part came) in
    let fits : count + n ≤ length (w ++ part) = omega (arith, length-append w part) in
    reads-one i i' w (take n part) _ t t' at went here
    (rw all at slid ∙ middle (w ++ part) at (count + n) within fits ∙ ap (drop at) front)

-- and stands there whole
part-fits : (before part after : List ℕ) (count n at : ℕ) → count ≤ length before → n ≤ length part → at ≤ count + n
    → take (count + n - at) after
    ≡ take (count + n - at) (drop at (take count before ++ (part ++ drop (length before - count) (drop count before))))
    → count + n - at ≤ length after
part-fits before part after count n at inside came within slid =
    let w = take count before in
    let rest = part ++ drop (length before - count) (drop count before) in
    let sizes = ap length slid in
    omega (
      arith,
      sizes,
      length-take (count + n - at) after,
      length-take (count + n - at) (drop at (w ++ rest)),
      length-drop at (w ++ rest),
      length-append w rest,
      length-append part (drop (length before - count) (drop count before)),
      length-take-le count before inside,
    )

pub part-fills : (i i' : Stream) (before part after : List ℕ) (count n at : ℕ) (t t' : State) → count ≤ length before
    → n ≤ length part → Through i (take n part) i'
    → Settles false (take (count + n) (take count before ++ (part ++ drop (length before - count) (drop count before)))) t at t'
    → take (count + n - at) after
    ≡ take (count + n - at) (drop at (take count before ++ (part ++ drop (length before - count) (drop count before))))
    → Fills i (take count before) t (record { input = i'; state = t'; came = n; count = count + n - at }) after
part-fills i i' before part after count n at t t' inside came went settles slid = record {
  within = part-fits before part after count n at inside came (within-front _ at (count + n) settles.within) slid;
  reads = part-read i i' before part after count n at t t' inside came went settles slid;
}

pub reads_more : {i i' i'' : Stream} {window window' window'' : List ℕ} {t t' t'' : State} → Reads i window t i' window' t'
    → Reads i' window' t' i'' window'' t'' → Reads i window t i'' window'' t''
reads_more {i} {i'} {i''} p q = record {
  part = p.part ++ q.part;
  went = through-more i p.part i' q.part i'' p.went q.went;
  carried = λ out lines bytes h. rw (← append_assoc bytes p.part q.part)
      (q.carried out lines (bytes ++ p.part) (p.carried out lines bytes h));
}

-- ---- the whole input

-- the line of the last run
pub closes : {place : Place} {line line' : List ℕ} {n : ℕ} → Closes place line n line' → line_room ≤ length line
    → take n line' ≡ closed_line place.from place.lost
unfolding closing
closes {place} {line} {line'} {n} c room =
    let here = le-ltb (length line) line_room room in
    let told = closed_line place.from place.lost in
    let is : line' ≡ sets line 0 told = c.written ∙ rw here in
    let size : n ≡ length told = c.counted ∙ rw here in
    let fits : length told ≤ length line = omega (arith, c.within, ap length is ∙ length-sets line 0 told) in
    rw (is, size) (front_read line told fits)

abbrev pub begun : Stream → Stream → State
begun out lines = record { place = record { from = 0; lost = 0 }; out = out; lines = lines }

module _ (input out lines i : Stream) (window : List ℕ) (t : State) (r : Reads input [] (begun out lines) i window t) where
  pub broken : (i.failed || (t.out.failed || t.lines.failed)) ≡ true
      → Salvages input out lines (record { input = i; out = t.out; lines = t.lines; ended = false })
  broken e = record {
    bytes = r.part;
    went = r.went;
    file = λ z. absurd (false≢true z);
    told = λ z. absurd (false≢true z);
    whole = λ a b c. rw (a, b, c) at e;
  }

  pub ended : (t' t'' : State) (taken : ℕ) → Settles true window t taken t' → Rests true (drop taken window)
      → Puts t'.place (closed_line t'.place.from t'.place.lost) [] t' t''
      → Salvages input out lines (record { input = i; out = t''.out; lines = t''.lines; ended = true })
  ended t' t'' taken settles rests puts =
      let none : Holds out lines false [] [] (begun out lines) = record {
        file = [];
        told = [];
        stands = stands-none longest_record reply_of;
        filed = wrote_none out;
        said = wrote_none lines;
      } in
      let h = settles.carried out lines r.part (holds-last out lines r.part window t (r.carried out lines [] none)) in
      let st : Stands longest_record reply_of true r.part h.file h.told t'.place.from t'.place.lost [] =
      rw (rests.over refl) at h.stands in
      let all = stands-over longest_record reply_of st in
      record {
        bytes = r.part;
        went = r.went;
        file = λ z. rw all.0 (rw append-nil at (wrote-more out h.file t'.out [] t''.out h.filed puts.file));
        told = λ z. rw all.1 (wrote-more lines h.told t'.lines _ t''.lines h.said puts.told);
        whole = λ a b c. refl;
      }
