-- The runs of skipped bytes: put back at their offsets they give the torn file; and they are apart. Assumes nothing.
use mathlib.Core.Path.{◌≡◌, refl, sym, ap, ◌∙◌}
use mathlib.Core.List.{List, [], ◌∷◌, ◌++◌, map, append_assoc, append-nil}
use Prim.Native.Nat.{ℕ, suc, ◌+◌, ◌-◌, ◌≤◌, ◌<◌}
use native.Mathlib.Nat.{zero-add, add-zero}
use native.Mathlib.Omega.{arith}
use lib.ListN.{length, length-append}
use lib.Seq.{take_at, drop_at}
use Rattle.pairs.specs.Cut.{Pair, joined}
use Rattle.torn.specs.Salvage.{Mark, keeps, skips, kept_pairs, saved, Run, closed, runs_from, runs, put_back, Apart, none, one}
use Rattle.torn.proofs.Joining.{pair_bytes, AllWhole, more, whole-some, pair_then}
use Rattle.torn.proofs.Saving.{Saves, over, keep, skip, good-both}

-- what the marks are of
pub passed : List Mark → List ℕ
passed [] = []
passed (keeps pair ∷ marks) = pair_bytes pair ++ passed marks
passed (skips b ∷ marks) = b ∷ passed marks

pub passed_is : {most : ℕ} {door : List ℕ → List ℕ} {w : List ℕ} {m : List Mark} → Saves most door w m → passed m ≡ w
unfolding passed
passed_is over = refl
passed_is {most} {door} {w} (keep e s) = rw (passed_is s) (pair_then most w (good-both most door w e).0)
passed_is (skip {b = b} e s) = ap (λ (l : List ℕ). b ∷ l) (passed_is s)

-- ---- put back

saved-more : (pair : Pair) (marks : List Mark) → saved (keeps pair ∷ marks) ≡ pair_bytes pair ++ saved marks
unfolding saved kept_pairs joined
saved-more pair marks = refl

saved-past : (b : ℕ) (marks : List Mark) → saved (skips b ∷ marks) ≡ saved marks
unfolding saved kept_pairs
saved-past b marks = refl

saved-none : saved [] ≡ []
unfolding saved kept_pairs joined
saved-none = refl

saved-left : (at : ℕ) → put_back at [] (saved []) ≡ []
unfolding put_back saved kept_pairs joined
saved-left at = refl

closed_none : (from : ℕ) (rest : List Run) → closed from [] ++ rest ≡ rest
unfolding closed
closed_none from rest = refl

nothing-back : (at from : ℕ) (p : List ℕ) → put_back at (closed from []) (p ++ []) ≡ p ++ [] ++ []
unfolding closed put_back
nothing-back at from p = sym (append-nil (p ++ []))

-- a run that begins where the file that is there ends
one-back : (at from : ℕ) (lost : List ℕ) (rest : List Run) (p file : List ℕ) → at + length p ≡ from → 0 < length lost
    → put_back at (closed from lost ++ rest) (p ++ file) ≡ p ++ lost ++ put_back (from + length lost) rest file
unfolding closed put_back
one-back at from [] rest p file e l = absurd (omega arith)
one-back at from (b ∷ s) rest p file e l =
    let n : length p ≡ from - at = omega arith in
    rw (take_at p file (from - at) n, drop_at p file (from - at) n)

back : (at from : ℕ) (lost : List ℕ) (marks : List Mark) (p : List ℕ) → at + length p ≡ from
    → put_back at (runs_from from lost marks) (p ++ saved marks) ≡ p ++ lost ++ passed marks
unfolding runs_from passed
back at from [] [] p e = rw saved-none (nothing-back at from p)
back at from (a ∷ s) [] p e =
    rw (← append-nil (closed from (a ∷ s))) (one-back at from (a ∷ s) [] p (saved []) e (omega arith)
    ∙ ap (λ (l : List ℕ). p ++ (a ∷ s) ++ l) (saved-left (from + length (a ∷ s))))
back at from lost (skips b ∷ marks) p e =
    rw (saved-past b marks) (back at from (lost ++ b ∷ []) marks p e ∙ simp append_assoc)
back at from [] (keeps pair ∷ marks) p e =
    let q = pair_bytes pair in
    let n : at + length (p ++ q) ≡ from + 0 + length q = rw length-append (omega arith) in
    let there : put_back at (runs_from (from + 0 + length q) [] marks) (p ++ (q ++ saved marks)) ≡ p ++ [] ++ (q ++ passed marks) =
    rw append_assoc at (back at (from + 0 + length q) [] marks (p ++ q) n) ∙ simp (append_assoc, append-nil) in
    rw (saved-more pair marks, closed_none from) there
back at from (a ∷ s) (keeps pair ∷ marks) p e =
    rw saved-more (one-back at from (a ∷ s) _ p (pair_bytes pair ++ saved marks) e (omega arith)
    ∙ ap (λ (l : List ℕ). p ++ (a ∷ s) ++ l)
    (rw (append-nil (pair_bytes pair)) at (back (from + length (a ∷ s)) _ [] marks (pair_bytes pair) refl)))

pub put-back : (marks : List Mark) → put_back 0 (runs marks) (saved marks) ≡ passed marks
unfolding runs
put-back marks = back 0 0 [] marks [] refl

-- ---- apart

later : {end at at' : ℕ} {rest : List Run} → at ≤ at' → Apart end at' rest → Apart end at rest
later l none = none
later {end} {at} l (one {run = run} f s w m) =
    let g : at ≤ run.offset = omega arith in
    one g s w m

apart-closed : {end at from : ℕ} (lost : List ℕ) {rest : List Run} → at ≤ from → from + length lost ≤ end
    → Apart end (from + length lost + 1) rest → Apart end at (closed from lost ++ rest)
unfolding closed
apart-closed [] l w a = later (omega arith) a
apart-closed {from = from} (b ∷ s) l w a = one {run = record { offset = from; bytes = b ∷ s }} l (omega arith) w a

apart_from : {most : ℕ} (from : ℕ) (lost : List ℕ) (marks : List Mark) → AllWhole most (kept_pairs marks)
    → Apart (from + length lost + length (passed marks)) from (runs_from from lost marks)
unfolding runs_from passed kept_pairs
apart_from from lost [] all = rw (← append-nil (closed from lost)) (apart-closed lost (omega arith) (omega arith) none)
apart_from from lost (skips b ∷ marks) all =
    let n : from + length (lost ++ b ∷ []) + length (passed marks) ≡ from + length lost + suc (length (passed marks)) =
    rw length-append (omega arith) in
    rw n at (apart_from from (lost ++ b ∷ []) marks all)
apart_from from lost (keeps pair ∷ marks) (more w all) =
    let q = pair_bytes pair in
    let size = length-append q (passed marks) in
    let n : from + length lost + length q + 0 + length (passed marks) ≡ from + length lost + length (q ++ passed marks) =
    omega arith in
    apart-closed lost (omega arith) (omega arith)
    (later (omega (arith, whole-some w [])) (rw n at (apart_from (from + length lost + length q) [] marks all)))

pub apart : {most : ℕ} (marks : List Mark) → AllWhole most (kept_pairs marks) → Apart (length (passed marks)) 0 (runs marks)
unfolding runs
apart marks all = rw zero-add at (apart_from 0 [] marks all)

-- ---- nothing was skipped

pub no-runs : (from : ℕ) (pairs : List Pair) → runs_from from [] (map keeps pairs) ≡ []
unfolding runs_from closed
no-runs from [] = refl
no-runs from (pair ∷ pairs) = no-runs (from + 0 + length (pair_bytes pair)) pairs

-- ---- runs as the marks come

-- bytes that are skipped, and pairs that are kept
pub runs_skip : (from : ℕ) (lost bytes : List ℕ) (marks : List Mark)
    → runs_from from lost (map skips bytes ++ marks) ≡ runs_from from (lost ++ bytes) marks
unfolding runs_from
runs_skip from lost [] marks = rw append-nil
runs_skip from lost (b ∷ bytes) marks = runs_skip from (lost ++ b ∷ []) bytes marks ∙ rw append_assoc

runs-keep-on : (from : ℕ) (pairs : List Pair) (marks : List Mark)
    → runs_from from [] (map keeps pairs ++ marks) ≡ runs_from (from + length (joined pairs)) [] marks
unfolding runs_from closed joined
runs-keep-on from [] marks = rw add-zero
runs-keep-on from (pair ∷ pairs) marks =
    let n : from + 0 + length (pair_bytes pair) + length (joined pairs) ≡ from + length (pair_bytes pair ++ joined pairs) =
    omega (arith, length-append (pair_bytes pair) (joined pairs)) in
    runs-keep-on (from + 0 + length (pair_bytes pair)) pairs marks ∙ ap (λ (k : ℕ). runs_from k [] marks) n

pub runs-keep : (from : ℕ) (lost : List ℕ) (pair : Pair) (pairs : List Pair) (marks : List Mark)
    → runs_from from lost (map keeps (pair ∷ pairs) ++ marks)
    ≡ closed from lost ++ runs_from (from + length lost + length (joined (pair ∷ pairs))) [] marks
unfolding runs_from joined
runs-keep from lost pair pairs marks =
    let n : from + length lost + length (pair_bytes pair) + length (joined pairs)
    ≡ from + length lost + length (pair_bytes pair ++ joined pairs) = omega (arith, length-append (pair_bytes pair) (joined pairs)) in
    ap (λ (l : List Run). closed from lost ++ l) (runs-keep-on _ pairs marks ∙ ap (λ (k : ℕ). runs_from k [] marks) n)

-- and the file
pub saved-skip : (bytes : List ℕ) (marks : List Mark) → saved (map skips bytes ++ marks) ≡ saved marks
unfolding saved kept_pairs
saved-skip [] marks = refl
saved-skip (b ∷ bytes) marks = saved-skip bytes marks

pub saved-keep : (pairs : List Pair) (marks : List Mark) → saved (map keeps pairs ++ marks) ≡ joined pairs ++ saved marks
unfolding saved kept_pairs joined
saved-keep [] marks = refl
saved-keep (pair ∷ pairs) marks = ap (λ (l : List ℕ). pair_bytes pair ++ l) (saved-keep pairs marks) ∙ sym (append_assoc (pair_bytes pair) _ _)
