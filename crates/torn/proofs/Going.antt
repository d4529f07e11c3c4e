-- The salvage goes on: what is decided of a window, whatever comes behind it; and where it stands then. Assumes nothing.
use mathlib.Core.Path.{◌≡◌, refl, sym, ap, ◌∙◌}
use mathlib.Core.Bool.{Bool, true, false, false≢true}
use mathlib.Core.List.{List, [], ◌∷◌, ◌++◌, map, append_assoc, append-nil}
use Prim.Native.Nat.{ℕ, zero, suc, ◌+◌, ◌≤◌, ◌<◌}
use native.Mathlib.Omega.{arith}
use lib.ListN.{length, take, drop, length-append, length-drop, length-take}
use lib.Seq.{drop-drop, take-add, length-take-le}
use borrow.Author.Tests.{ne_eqb}
use Rattle.wire.specs.Start.{length_field, behind}
use Rattle.pairs.specs.Cut.{Pair, starts_pair, pair_in, pair_size, joined}
use Rattle.pairs.proofs.Cutting.{nothing, not-both-ways, starts_more, pair-more, behind-both, size-some, front-pair}
use Rattle.feed.specs.Feed.{capped}
use Rattle.torn.specs.Salvage.{good, Mark, keeps, skips, salvage_in, salvage, kept_pairs, saved, Run, closed, runs_from, runs}
use Rattle.torn.specs.Lines.{capped_lines}
use Rattle.torn.specs.Window.{waits, passes, skips_ahead, keeps_in, keeps_ahead}
use Rattle.torn.specs.Window.{closed_line, line_after, from_after, lost_after, Stands}
use Rattle.torn.proofs.Joining.{some_bytes, front-is}
use Rattle.torn.proofs.Saving.{Saves, keep, skip, saves, saved-as, good-both, good-is, good_none}
use Rattle.torn.proofs.Back.{runs_skip, runs-keep, saved-skip, saved-keep}
use Rattle.torn.proofs.Waiting.{none-will-start, waits-small}

-- ---- what is decided

-- so much of a window is decided, whatever comes behind it
pub record Decides (most : ℕ) (door : List ℕ → List ℕ) (last : Bool) (w : List ℕ) (marks : List Mark) (rest : List ℕ) : Type 0 where
  pub goes_on : (x : List ℕ) (m : List Mark) → (last ≡ true → x ≡ []) → Saves most door (rest ++ x) m
      → Saves most door (w ++ x) (marks ++ m)

module _ (most : ℕ) (door : List ℕ → List ℕ) (last : Bool) where
  decides-none : (w : List ℕ) → Decides most door last w [] w
  decides-none w = record { goes_on = λ x m end s. s }

  decides-then : {w v u : List ℕ} {m n : List Mark} → Decides most door last w m v → Decides most door last v n u
      → Decides most door last w (m ++ n) u
  decides-then {m = m} {n = n} d e = record {
    goes_on = λ x l end s. rw (append_assoc m n l) (d.goes_on x (n ++ l) end (e.goes_on x l end s));
  }

  -- the first byte is skipped
  stays-bad : (w x : List ℕ) → passes most door last w ≡ true → (last ≡ true → x ≡ []) → good most door (w ++ x) ≡ false
  unfolding passes
  stays-bad w x p end = by (starts_pair most w) refl (good most door w) refl last refl
    where
      by : (t : Bool) → starts_pair most w ≡ t → (u : Bool) → good most door w ≡ u → (l : Bool) → last ≡ l
          → good most door (w ++ x) ≡ false
      by t e true f l q = absurd (false≢true (rw f at p))
      by true e false f l q =
          good-is most door (w ++ x) (starts_more most w x e) ∙ rw (pair-more most w x e) (sym (good-is most door w e) ∙ f)
      by false e false f true q = rw (end q, append-nil) f
      by false e false f false q = by-waits (waits most w) refl
        where
          by-waits : (v : Bool) → waits most w ≡ v → good most door (w ++ x) ≡ false
          by-waits true g = absurd (false≢true (rw (f, q, g) at p))
          by-waits false g = good_none most door (w ++ x) (none-will-start most w x e g)

  decides-skip : (b : ℕ) (s : List ℕ) → passes most door last (b ∷ s) ≡ true → Decides most door last (b ∷ s) (skips b ∷ []) s
  decides-skip b s p = record { goes_on = λ x m end t. skip (stays-bad (b ∷ s) x p end) t }

  -- a pair is kept
  decides-keep : (w : List ℕ) → good most door w ≡ true → Decides most door last w (keeps (pair_in w) ∷ []) (behind (behind w))
  decides-keep w g = record { goes_on = on }
    where
      e : starts_pair most w ≡ true
      e = (good-both most door w g).0

      on : (x : List ℕ) (m : List Mark) → (last ≡ true → x ≡ []) → Saves most door (behind (behind w) ++ x) m
          → Saves most door (w ++ x) (keeps (pair_in w) ∷ m)
      on x m end t =
          let more : good most door (w ++ x) ≡ true =
          good-is most door (w ++ x) (starts_more most w x e) ∙ rw (pair-more most w x e) (sym (good-is most door w e) ∙ g) in
          let further : Saves most door (behind (behind (w ++ x))) m = rw (behind-both most w x e) t in
          rw (pair-more most w x e) at (keep more further)

  -- ---- what lies ahead

  skips-decided : (w : List ℕ)
      → Decides most door last w (map skips (take (skips_ahead most door last w) w)) (drop (skips_ahead most door last w) w)
  unfolding skips_ahead
  skips-decided [] = decides-none []
  skips-decided (b ∷ s) = by (passes most door last (b ∷ s)) refl (skips-decided s)
    where
      by : (t : Bool) → passes most door last (b ∷ s) ≡ t
          → Decides most door last s (map skips (take (skips_ahead most door last s) s)) (drop (skips_ahead most door last s) s)
          → Decides most door last (b ∷ s) (map skips (take (skips_ahead most door last (b ∷ s)) (b ∷ s)))
          (drop (skips_ahead most door last (b ∷ s)) (b ∷ s))
      by true e d = rw e (decides-then (decides-skip b s e) d)
      by false e d = rw e (decides-none (b ∷ s))

-- pairs that are kept one after the other, and how many bytes they are
pub data Keeps (most : ℕ) (door : List ℕ → List ℕ) : List ℕ → ℕ → List Pair → Type 0 where
  stop : {w : List ℕ} → good most door w ≡ false → Keeps most door w 0 []
  more : {w : List ℕ} {n : ℕ} {pairs : List Pair} → good most door w ≡ true
      → Keeps most door (drop (pair_size most w) w) n pairs → Keeps most door w (pair_size most w + n) (pair_in w ∷ pairs)

module _ (most : ℕ) (door : List ℕ → List ℕ) where
  past-pair : (w : List ℕ) → starts_pair most w ≡ true → drop (pair_size most w) w ≡ behind (behind w)
  unfolding behind
  past-pair w e = rw (size-some most w e) (sym (drop-drop (length_field (drop (length_field w) w)) (length_field w) w))

  pub past-shorter : (w : List ℕ) → good most door w ≡ true → length (drop (pair_size most w) w) < length w
  past-shorter w e =
      let s = (good-both most door w e).0 in
      let some : 0 < pair_size most w = some_bytes most w s in
      rw length-drop (omega (arith, (front-pair most w some).inside))

  -- the pairs that lie ahead
  pub record Ahead (w : List ℕ) (n : ℕ) : Type 0 where
    pub pairs : List Pair
    pub keeps_them : Keeps most door w n pairs

  keeps-in : (turns : ℕ) (w : List ℕ) → length w ≤ turns → Ahead w (keeps_in most door turns w)
  unfolding keeps_in
  keeps-in zero [] l = record { pairs = []; keeps_them = stop (good_none most door [] (nothing most)) }
  keeps-in zero (b ∷ s) l = absurd (omega arith)
  keeps-in (suc turns) w l = by (good most door w) refl (keeps-in turns (drop (pair_size most w) w))
    where
      by : (t : Bool) → good most door w ≡ t → (length (drop (pair_size most w) w) ≤ turns
          → Ahead (drop (pair_size most w) w) (keeps_in most door turns (drop (pair_size most w) w)))
          → Ahead w (keeps_in most door (suc turns) w)
      by true e f =
          let a = f (omega (arith, past-shorter w e)) in
          rw e (record { pairs = pair_in w ∷ a.pairs; keeps_them = more e a.keeps_them })
      by false e f = rw e (record { pairs = []; keeps_them = stop e })

  pub keeps-ahead : (w : List ℕ) → Ahead w (keeps_ahead most door w)
  unfolding keeps_ahead
  keeps-ahead w = keeps-in (length w) w (omega arith)

  same-keeps : {w : List ℕ} {m n : ℕ} {ps qs : List Pair} → Keeps most door w m ps → Keeps most door w n qs → m ≡ n
  same-keeps (stop e) (stop f) = refl
  same-keeps (stop e) (more f d) = absurd (not-both-ways f e)
  same-keeps (more e c) (stop f) = absurd (not-both-ways e f)
  same-keeps {w} (more e c) (more f d) = ap (λ (n : ℕ). pair_size most w + n) (same-keeps c d)

  -- for the loop that counts them
  pub keeps-stop : (w : List ℕ) → good most door w ≡ false → keeps_ahead most door w ≡ 0
  keeps-stop w e = same-keeps (keeps-ahead w).keeps_them (stop e)

  pub keeps-more : (w : List ℕ) → good most door w ≡ true
      → keeps_ahead most door w ≡ pair_size most w + keeps_ahead most door (drop (pair_size most w) w)
  keeps-more w e = same-keeps (keeps-ahead w).keeps_them (more e (keeps-ahead (drop (pair_size most w) w)).keeps_them)

  -- they are decided, and are the bytes at the front
  keeps-decided : (last : Bool) {w : List ℕ} {n : ℕ} {pairs : List Pair} → Keeps most door w n pairs
      → Decides most door last w (map keeps pairs) (drop n w)
  keeps-decided last {w} (stop e) = decides-none most door last w
  keeps-decided last {w} (more {n = n} e k) =
      let here : Decides most door last w (keeps (pair_in w) ∷ []) (drop (pair_size most w) w) =
      rw (past-pair w (good-both most door w e).0) (decides-keep most door last w e) in
      rw (drop-drop n (pair_size most w) w) at (decides-then most door last here (keeps-decided last k))

  keeps-bytes : {w : List ℕ} {n : ℕ} {pairs : List Pair} → Keeps most door w n pairs → take n w ≡ joined pairs
  unfolding joined
  keeps-bytes {w} (stop e) = refl
  keeps-bytes {w} (more {n = n} e k) =
      take-add (pair_size most w) n w ∙ rw (front-is most w (good-both most door w e).0, keeps-bytes k)

  keeps-within : {w : List ℕ} {n : ℕ} {pairs : List Pair} → Keeps most door w n pairs → n ≤ length w
  keeps-within (stop e) = omega arith
  keeps-within {w} (more e k) =
      let some = some_bytes most w (good-both most door w e).0 in
      omega (arith, keeps-within k, length-drop (pair_size most w) w, (front-pair most w some).inside)

  keeps-size : {w : List ℕ} {n : ℕ} {pairs : List Pair} → Keeps most door w n pairs → length (joined pairs) ≡ n
  keeps-size {w} {n} k = ap length (sym (keeps-bytes k)) ∙ length-take-le n w (keeps-within k)

  pub keeps-fits : (w : List ℕ) → keeps_ahead most door w ≤ length w
  keeps-fits w = keeps-within (keeps-ahead w).keeps_them

-- ---- where it stands

again : (a b : ℕ) → capped (capped a + b) ≡ capped (a + b)
again a b = omega arith

lines-closed : (offset : ℕ) (lost : List ℕ) (rest : List Run)
    → capped_lines (closed offset lost ++ rest) ≡ closed_line (capped offset) (capped (length lost)) ++ capped_lines rest
unfolding closed closed_line capped_lines
lines-closed offset [] rest = refl
lines-closed offset (b ∷ s) rest =
    rw (ne_eqb (capped (length (b ∷ s))) 0 (λ (z : capped (length (b ∷ s)) ≡ 0). omega arith))

all_closed : (offset : ℕ) (lost : List ℕ) → capped_lines (closed offset lost) ≡ closed_line (capped offset) (capped (length lost))
unfolding capped_lines
all_closed offset lost =
    ap capped_lines (sym (append-nil (closed offset lost))) ∙ lines-closed offset lost [] ∙ append-nil _

module _ (most : ℕ) (door : List ℕ → List ℕ) where
  -- nothing was read
  pub stands-none : Stands most door false [] [] [] 0 0 []
  unfolding runs
  stands-none = record {
    offset = 0;
    lost = [];
    from_is = refl;
    lost_is = refl;
    saves = λ x end. refl;
    tells = λ x end. refl;
  }

  module _ {bytes file lines : List ℕ} {from n : ℕ} {w : List ℕ} where
    -- more bytes were read; and no more come
    pub stands_read : (part : List ℕ) → Stands most door false bytes file lines from n w
        → Stands most door false (bytes ++ part) file lines from n (w ++ part)
    stands_read part s = record {
      offset = s.offset;
      lost = s.lost;
      from_is = s.from_is;
      lost_is = s.lost_is;
      saves = λ x end. rw (append_assoc bytes part x, append_assoc w part x) (s.saves (part ++ x) (λ t. absurd (false≢true t)));
      tells = λ x end. rw (append_assoc bytes part x, append_assoc w part x) (s.tells (part ++ x) (λ t. absurd (false≢true t)));
    }

    pub stands-last : (last : Bool) → Stands most door false bytes file lines from n w → Stands most door last bytes file lines from n w
    stands-last last s = record {
      offset = s.offset;
      lost = s.lost;
      from_is = s.from_is;
      lost_is = s.lost_is;
      saves = λ x end. s.saves x (λ t. absurd (false≢true t));
      tells = λ x end. s.tells x (λ t. absurd (false≢true t));
    }

  salvage-none : salvage most door [] ≡ []
  unfolding salvage salvage_in
  salvage-none = refl

  saved-none : saved (salvage most door []) ≡ []
  unfolding saved kept_pairs joined
  saved-none = rw salvage-none

  lines_none : (offset : ℕ) (lost : List ℕ)
      → capped_lines (runs_from offset lost (salvage most door [])) ≡ closed_line (capped offset) (capped (length lost))
  unfolding runs_from
  lines_none offset lost = rw salvage-none (all_closed offset lost)

  -- the end: the file is written, and the lines but for the last run's
  pub stands-over : {bytes file lines : List ℕ} {from n : ℕ} → Stands most door true bytes file lines from n []
      → (saved (salvage most door bytes) ≡ file) × (capped_lines (runs (salvage most door bytes)) ≡ lines ++ closed_line from n)
  stands-over s = (
    rw (append-nil, saved-none, append-nil) at (s.saves [] (λ t. refl)),
    rw (append-nil, lines_none s.offset s.lost, ← s.from_is, ← s.lost_is) at (s.tells [] (λ t. refl)),
  )

  -- ---- what lies ahead is skipped, and kept

  pub skips-within : (last : Bool) (w : List ℕ) → skips_ahead most door last w ≤ length w
  unfolding skips_ahead
  skips-within last [] = omega arith
  skips-within last (b ∷ s) = by (passes most door last (b ∷ s)) refl (skips-within last s)
    where
      by : (t : Bool) → passes most door last (b ∷ s) ≡ t → skips_ahead most door last s ≤ length s
          → skips_ahead most door last (b ∷ s) ≤ suc (length s)
      by true e l = rw e (omega arith)
      by false e l = rw e (omega arith)

  -- the marks of what lies ahead
  ahead-marks : (last : Bool) (w : List ℕ) (s : ℕ) → s ≡ skips_ahead most door last w → {k : ℕ} {pairs : List Pair}
      → Keeps most door (drop s w) k pairs → (x : List ℕ) → (last ≡ true → x ≡ [])
      → salvage most door (w ++ x)
      ≡ map skips (take s w) ++ (map keeps pairs ++ salvage most door (drop k (drop s w) ++ x))
  ahead-marks last w s is {k} {pairs} ks x end =
      let rest = saves most door (drop k (drop s w) ++ x) in
      let first : Decides most door last w (map skips (take s w)) (drop s w) = rw is (skips-decided most door last w) in
      saved-as most door (first.goes_on x _ end ((keeps-decided most door last ks).goes_on x _ end rest))

  module _ (last : Bool) {bytes file lines : List ℕ} {from n : ℕ} {w : List ℕ} (st : Stands most door last bytes file lines from n w)
      (s : ℕ) (is : s ≡ skips_ahead most door last w) where
    abbrev lost-now : List ℕ
    lost-now = st.lost ++ take s w

    lost-size : length (st.lost ++ take s w) ≡ length st.lost + s
    lost-size = simp (length-append, length-take) (omega (arith, skips-within last w))

    count : capped (n + s) ≡ capped (length (st.lost ++ take s w))
    count = rw (lost-size, st.lost_is) (again (length st.lost) s)

    pub stands-skip : good most door (drop s w) ≡ false
        → Stands most door last bytes file lines from (capped (n + s)) (drop s w)
    stands-skip g = record {
      offset = st.offset;
      lost = st.lost ++ take s w;
      from_is = st.from_is;
      lost_is = count;
      saves = λ x end. st.saves x end
          ∙ ap (λ (l : List ℕ). file ++ l) (ap saved (ahead-marks last w s is (stop g) x end) ∙ saved-skip (take s w) _);
      tells = λ x end. st.tells x end
          ∙ ap (λ (l : List ℕ). lines ++ l) (ap (λ (m : List Mark). capped_lines (runs_from st.offset st.lost m))
          (ahead-marks last w s is (stop g) x end) ∙ ap capped_lines (runs_skip st.offset st.lost (take s w) _));
    }

    -- where pairs are kept
    pub stands-keep : {k : ℕ} (pair : Pair) (pairs : List Pair) → Keeps most door (drop s w) k (pair ∷ pairs)
        → Stands most door last bytes (file ++ take k (drop s w)) (lines ++ closed_line from (capped (n + s)))
        (capped (capped (from + capped (n + s)) + k)) 0 (drop k (drop s w))
    stands-keep {k} pair pairs ks = let size = keeps-size most door ks in record {
      offset = st.offset + length lost-now + length (joined (pair ∷ pairs));
      lost = [];
      from_is = omega (arith, count, st.from_is, size);
      lost_is = refl;
      saves = λ x end. st.saves x end
          ∙ ap (λ (l : List ℕ). file ++ l) (ap saved (ahead-marks last w s is ks x end) ∙ saved-skip (take s w) _
          ∙ saved-keep (pair ∷ pairs) _ ∙ rw (← keeps-bytes most door ks)) ∙ sym (append_assoc file (take k (drop s w)) _);
      tells = λ x end. st.tells x end
          ∙ ap (λ (l : List ℕ). lines ++ l) (ap (λ (m : List Mark). capped_lines (runs_from st.offset st.lost m))
          (ahead-marks last w s is ks x end) ∙ ap capped_lines (runs_skip st.offset st.lost (take s w) _
          ∙ runs-keep st.offset lost-now pair pairs _) ∙ lines-closed st.offset lost-now _
          ∙ rw (← count, ← st.from_is))
          ∙ sym (append_assoc lines _ _);
    }

    -- either way
    pub stands-next : {k : ℕ} → k ≡ keeps_ahead most door (drop s w)
        → Stands most door last bytes (file ++ take k (drop s w)) (lines ++ line_after from n s k) (from_after from n s k)
        (lost_after n s k) (drop k (drop s w))
    unfolding line_after from_after lost_after
    stands-next {k} e = let a = keeps-ahead most door (drop s w) in by {k = k} {pairs = a.pairs} (rw e a.keeps_them)
      where
        by : {k : ℕ} {pairs : List Pair} → Keeps most door (drop s w) k pairs
            → Stands most door last bytes (file ++ take k (drop s w)) (lines ++ line_after from n s k) (from_after from n s k)
            (lost_after n s k) (drop k (drop s w))
        by (stop g) = rw (append-nil, append-nil) (stands-skip g)
        by (more {n = m} {pairs = pairs} g ks) =
            let some = some_bytes most (drop s w) (good-both most door (drop s w) g).0 in
            let size = pair_size most (drop s w) in
            rw (ne_eqb (size + m) 0 (λ (z : size + m ≡ 0). omega arith)) (stands-keep (pair_in (drop s w)) pairs (more g ks))

-- ---- where nothing lies ahead

module _ (most : ℕ) (door : List ℕ → List ℕ) where
  -- the window is empty, or its pair is cut off and more bytes may come
  at_rest : (last : Bool) (b : ℕ) (s : List ℕ) → skips_ahead most door last (b ∷ s) ≡ 0 → keeps_ahead most door (b ∷ s) ≡ 0
      → (last ≡ false) × (waits most (b ∷ s) ≡ true)
  unfolding skips_ahead passes
  at_rest last b s none-skipped none_kept = by (good most door (b ∷ s)) refl last refl (waits most (b ∷ s)) refl
    where
      by : (g : Bool) → good most door (b ∷ s) ≡ g → (l : Bool) → last ≡ l → (v : Bool) → waits most (b ∷ s) ≡ v
          → (last ≡ false) × (waits most (b ∷ s) ≡ true)
      by true g l is v w =
          let some = some_bytes most (b ∷ s) (good-both most door (b ∷ s) g).0 in
          absurd (omega (arith, keeps-more most door (b ∷ s) g))
      by false g true is v w = let never = rw (g, is) at none-skipped in absurd (omega arith)
      by false g false is true w = (is, w)
      by false g false is false w = let never = rw (g, is, w) at none-skipped in absurd (omega arith)

  -- at the end nothing is left; before it, less than two records
  pub rest-none : (w : List ℕ) → skips_ahead most door true w ≡ 0 → keeps_ahead most door w ≡ 0 → w ≡ []
  rest-none [] p q = refl
  rest-none (b ∷ s) p q = absurd (false≢true (sym (at_rest true b s p q).0))

  pub rest-small : (w : List ℕ) → 2 ≤ most → skips_ahead most door false w ≡ 0 → keeps_ahead most door w ≡ 0
      → length w < most + most
  rest-small [] two p q = omega arith
  rest-small (b ∷ s) two p q = waits-small most (b ∷ s) two (at_rest false b s p q).1
