-- Laws of the lines of a night told pair by pair. Assumes nothing.
use mathlib.Core.Path.{◌≡◌, refl, sym, ap, ◌∙◌}
use mathlib.Core.Bool.{Bool, true, false, cond}
use mathlib.Core.List.{List, [], ◌∷◌, ◌++◌, append_assoc, append-nil}
use Prim.Native.Nat.{ℕ, suc, ◌+◌, ◌*◌, ◌-◌, ◌/◌, ◌≤◌, ◌<◌, min}
use native.Mathlib.Decide.{dec_lt}
use native.Mathlib.Numerals.{add-one}
use native.Mathlib.Omega.{arith}
use lib.Dec.{eqb, leb}
use lib.ListN.{length, get_or, drop, drop_of_length-le}
use lib.Seq.{drop-cons}
use borrow.Author.Tests.{lt-ltb, le-ltb, le-leb, lt-leb, eq-eqb, ne_eqb}
use Rattle.spell.specs.Decimal.{digits, decimal}
use Rattle.wire.specs.Words.{word_at, signed, number_at}
use Rattle.wire.specs.Start.{kind_field, length_field, shortest, is_length, behind, start}
use Rattle.pairs.specs.Cut.{longest_record}
use Rattle.feed.specs.Feed.{capped}
use Rattle.page.proofs.Forming.{two-parts, three-parts}
use Rattle.page.specs.Page.{counted, numbered, hexed}
use Rattle.page.specs.Form.{is_mark, width, after, value_of, marked, piece, told, formed}
use Rattle.shown.specs.entries.Text.{newline, pair_is, at_byte, cut_off_at, begins_at, byte_is, point_is, is, today, number_is, place_is, count_is, length_is}
use Rattle.shown.specs.entries.Text.{title_form, opening_form, changes, endings}
use Rattle.shown.specs.entries.Entry.{title_of, asked_of, first_difference, change_of, kind_change, point_change, behind_change, what_differs, entry_line}
use Rattle.shown.specs.entries.Ending.{no_length, cut_off, whole_trace, second_ending, ending_line}

-- ---- the first byte at which two records differ

pub record Alike (a b : List ℕ) (i : ℕ) : Type 0 where
  pub upto : i ≤ length a
  pub so_far : first_difference a b ≡ i + first_difference (drop i a) (drop i b)

pub alike-none : (a b : List ℕ) → Alike a b 0
alike-none a b = record { upto = omega arith; so_far = omega arith }

module _ (a b : List ℕ) (i : ℕ) (w : Alike a b i) where
  -- the shorter has ended
  pub ended : min (length a) (length b) ≤ i → i ≡ first_difference a b
  unfolding first_difference
  ended l = go (dec_lt i (length a))
    where
      go : Dec (i < length a) → i ≡ first_difference a b
      go (no h) =
          let none : drop i a ≡ [] = drop_of_length-le a (omega arith) in
          let all : first_difference a b ≡ i + 0 = w.so_far ∙ ap (λ (r : List ℕ). i + first_difference r (drop i b)) none in
          omega arith
      go (yes h) =
          let some : drop i a ≡ get_or a i 0 ∷ drop (suc i) a = drop-cons a i 0 h in
          let none : drop i b ≡ [] = drop_of_length-le b (omega arith) in
          let all : first_difference a b ≡ i + 0 = rw (some, none) at w.so_far in
          omega arith

  module _ (k : i < length a) (l : i < length b) where
    here : first_difference (drop i a) (drop i b)
        ≡ cond (eqb (get_or a i 0) (get_or b i 0)) (suc (first_difference (drop (suc i) a) (drop (suc i) b))) 0
    unfolding first_difference
    here = rw (drop-cons a i 0 k, drop-cons b i 0 l)

    pub differ-here : (get_or a i 0 ≡ get_or b i 0 → ⊥) → i ≡ first_difference a b
    differ-here e =
        let none : first_difference (drop i a) (drop i b) ≡ 0 = here ∙ rw (ne_eqb _ _ e) in
        omega (arith, w.so_far)

    pub alike-more : get_or a i 0 ≡ get_or b i 0 → Alike a b (i + 1)
    alike-more e =
        let more : first_difference (drop i a) (drop i b) ≡ suc (first_difference (drop (suc i) a) (drop (suc i) b)) =
        here ∙ rw (eq-eqb _ _ e) in
        record { upto = omega arith; so_far = rw (add-one i) (omega (arith, w.so_far)) }

-- ---- what was asked, and what differs: the text of each form

pub title-told : (a b : List ℕ) (number offset : ℕ) → formed 0 title_form a b number offset ≡ title_of number offset
unfolding formed told piece marked value_of after width is_mark counted title_of
title-told a b number offset = two-parts pair_is (digits number) at_byte (digits offset) [] ∙ append-nil _

opening-told : (request : List ℕ) (number offset : ℕ)
    → formed 0 opening_form request request number offset ≡ title_of number offset ++ asked_of request
unfolding formed told piece marked value_of after width is_mark counted hexed title_of asked_of kind_field
opening-told request number offset = two-parts pair_is (digits number) at_byte (digits offset) (asked_of request)

pub entry-told : (number offset : ℕ) (request recorded now : List ℕ)
    → formed 0 opening_form request request number offset ++ (what_differs recorded now ++ newline) ≡ entry_line number offset request recorded now
unfolding entry_line
entry-told number offset request recorded now = rw (opening-told request number offset) (sym (append_assoc (title_of number offset ++ asked_of request) (what_differs recorded now) newline))

module _ (a b : List ℕ) (n m : ℕ) where
  kinds-form : formed 0 changes a b n m ≡ kind_change (kind_field a) (kind_field b) ++ newline
  unfolding formed told piece marked value_of after width is_mark hexed kind_change kind_field
  kinds-form = refl

  numbers-form : formed 1 changes a b n m ≡ change_of number_is (get_or a 4 0) (get_or b 4 0) ++ newline
  unfolding formed told piece marked value_of after width is_mark counted change_of
  numbers-form = two-parts number_is (digits (get_or a 4 0)) today (digits (get_or b 4 0)) newline

  places-form : formed 2 changes a b n m ≡ change_of place_is (get_or a 5 0) (get_or b 5 0) ++ newline
  unfolding formed told piece marked value_of after width is_mark counted change_of
  places-form = two-parts place_is (digits (get_or a 5 0)) today (digits (get_or b 5 0)) newline

  counts-form : formed 3 changes a b n m ≡ change_of count_is (get_or a 6 0) (get_or b 6 0) ++ newline
  unfolding formed told piece marked value_of after width is_mark counted change_of
  counts-form = two-parts count_is (digits (get_or a 6 0)) today (digits (get_or b 6 0)) newline

  lengths-form : formed 4 changes a b n m ≡ change_of length_is (length a) (length b) ++ newline
  unfolding formed told piece marked value_of after width is_mark counted change_of
  lengths-form = two-parts length_is (digits (length a)) today (digits (length b)) newline

  byte-form : formed 5 changes a b n m ≡ counted byte_is n ++ newline
  unfolding formed told piece marked value_of after width is_mark counted
  byte-form = refl

  point-form : formed 6 changes a b n m ≡ (counted point_is n ++ numbered is (signed (word_at a m)) ++ numbered today (signed (word_at b m))) ++ newline
  unfolding formed told piece marked value_of after width is_mark counted numbered
  point-form = three-parts point_is (digits n) is (decimal (signed (word_at a m))) today (decimal (signed (word_at b m))) newline

  pub lengths-told : (length a ≡ length b → ⊥) → formed 4 changes a b n m ≡ behind_change a b ++ newline
  unfolding behind_change
  lengths-told e = rw (ne_eqb _ _ e) lengths-form

  module _ (same : length a ≡ length b) (d : ℕ) (is-first : d ≡ first_difference a b) where
    pub byte-told : d < start → n ≡ d → formed 5 changes a b n m ≡ behind_change a b ++ newline
    unfolding behind_change point_change
    byte-told l e = rw (eq-eqb _ _ same, ← is-first, lt-ltb d start l, ← e) byte-form

    pub point-told : start ≤ d → n ≡ (d - start) / 2 → m ≡ start + 2 * n → formed 6 changes a b n m ≡ behind_change a b ++ newline
    unfolding behind_change point_change number_at
    point-told l e f = rw (eq-eqb _ _ same, ← is-first, le-ltb d start l, ← e, ← f) point-form

  module _ (k l : ℕ) (p : k ≡ word_at a 2) (q : l ≡ word_at b 2) where
    pub kinds-told : (k ≡ l → ⊥) → formed 0 changes a b n m ≡ what_differs a b ++ newline
    unfolding what_differs
    kinds-told e = let o : eqb (kind_field a) (kind_field b) ≡ false = unfold kind_field in rw (← p, ← q) (ne_eqb k l e) in rw o kinds-form

    module _ (same : k ≡ l) (s : Bool) (x : s ≡ eqb (get_or a 4 0) (get_or b 4 0)) where
      kinds-same : eqb (kind_field a) (kind_field b) ≡ true
      unfolding kind_field
      kinds-same = rw (← p, ← q) (eq-eqb k l same)

      pub numbers-told : s ≡ false → formed 1 changes a b n m ≡ what_differs a b ++ newline
      unfolding what_differs
      numbers-told e = rw (kinds-same, ← x, e) numbers-form

      module _ (number : s ≡ true) (t : Bool) (y : t ≡ eqb (get_or a 5 0) (get_or b 5 0)) where
        pub places-told : t ≡ false → formed 2 changes a b n m ≡ what_differs a b ++ newline
        unfolding what_differs
        places-told e = rw (kinds-same, ← x, number, ← y, e) places-form

        module _ (place : t ≡ true) (u : Bool) (z : u ≡ eqb (get_or a 6 0) (get_or b 6 0)) where
          pub counts-told : u ≡ false → formed 3 changes a b n m ≡ what_differs a b ++ newline
          unfolding what_differs
          counts-told e = rw (kinds-same, ← x, number, ← y, place, ← z, e) counts-form

          pub behind-told : (f : ℕ) → u ≡ true → formed f changes a b n m ≡ behind_change a b ++ newline
              → formed f changes a b n m ≡ what_differs a b ++ newline
          unfolding what_differs
          behind-told f e g = rw (kinds-same, ← x, number, ← y, place, ← z, e) g

-- ---- the end

module _ (kept : List ℕ) where
  pub whole-form : (n offset : ℕ) → formed 0 endings kept kept n offset ≡ whole_trace offset
  unfolding formed told piece marked value_of after width is_mark counted whole_trace
  whole-form n offset = refl

  pub cut-form : (offset rest n : ℕ) → n ≡ capped (offset + rest) → formed 1 endings kept kept n offset ≡ cut_off offset rest
  unfolding formed told piece marked value_of after width is_mark counted cut_off
  cut-form offset rest n e = rw (← e) (two-parts cut_off_at (digits n) begins_at (digits offset) newline)

  pub length-form : (size offset : ℕ) → formed 2 endings kept kept size offset ≡ no_length size offset
  unfolding formed told piece marked value_of after width is_mark counted no_length
  length-form size offset = two-parts length_is (digits size) at_byte (digits offset) newline

pub short-length : (n : ℕ) → n < shortest → false ≡ is_length longest_record n
unfolding is_length
short-length n l = rw (lt-leb shortest n l)

pub right-length : (n : ℕ) → shortest ≤ n → leb n longest_record ≡ is_length longest_record n
unfolding is_length
right-length n l = rw (le-leb shortest n l)

module _ (offset rest : ℕ) (kept : List ℕ) where
  pub all_read : rest ≡ 0 → whole_trace offset ≡ ending_line offset rest kept
  unfolding ending_line
  all_read e = rw (eq-eqb rest 0 e)

  module _ (some : rest ≡ 0 → ⊥) where
    pub no_field : rest < 2 → cut_off offset rest ≡ ending_line offset rest kept
    unfolding ending_line
    no_field l = rw (ne_eqb rest 0 some, lt-ltb rest 2 l)

    module _ (l : 2 ≤ rest) (n : ℕ) (p : n ≡ word_at kept 0) (t : Bool) (q : t ≡ is_length longest_record n) where
      pub first-right : t ≡ true → second_ending offset rest kept ≡ ending_line offset rest kept
      unfolding ending_line length_field
      first-right e = rw (ne_eqb rest 0 some, le-ltb rest 2 l, ← p, ← q, e)

      pub first-wrong : t ≡ false → no_length n offset ≡ ending_line offset rest kept
      unfolding ending_line length_field
      first-wrong e = rw (ne_eqb rest 0 some, le-ltb rest 2 l, ← p, ← q, e)

  module _ (n : ℕ) (p : n ≡ word_at kept 0) where
    pub in-first : rest < n + 2 → cut_off offset rest ≡ second_ending offset rest kept
    unfolding second_ending length_field
    in-first l = rw (← p, lt-ltb rest (n + 2) l)

    module _ (l : n + 2 ≤ rest) (m : ℕ) (q : m ≡ word_at (behind kept) 0) (t : Bool) (r : t ≡ is_length longest_record m) where
      pub in-second : t ≡ true → cut_off offset rest ≡ second_ending offset rest kept
      unfolding second_ending length_field
      in-second e = rw (← p, le-ltb rest (n + 2) l, ← q, ← r, e)

      pub second-wrong : (o : ℕ) → t ≡ false → o ≡ capped (offset + length_field kept) → no_length m o ≡ second_ending offset rest kept
      unfolding second_ending length_field
      second-wrong o e f = rw (f, ← p, le-ltb rest (n + 2) l, ← q, ← r, e)
