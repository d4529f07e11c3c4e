-- Laws of the fourteen lines: those of the refusals are written one after the other. Assumes nothing.
use mathlib.Core.Path.{◌≡◌, refl, sym, ap, ◌∙◌}
use mathlib.Core.List.{List, [], ◌∷◌, ◌++◌, append_assoc, append-nil}
use Prim.Native.Nat.{ℕ, suc, ◌+◌, ◌*◌, ◌≤◌, ◌<◌}
use native.Mathlib.Nat.{add-zero, zero-add}
use native.Mathlib.Numerals.{add-one}
use native.Mathlib.Omega.{arith}
use lib.ListN.{length, take, get_or}
use lib.Seq.{take-suc, take_all, length-take-le}
use Rattle.spell.specs.Decimal.{Written}
use Rattle.spell.proofs.Writing.{written_none, written-within, written_then}
use Rattle.day.specs.sheet_lines.Lines.{refusal_line, refusal_lines, refusal_room}

-- one line more
lines_more : (n : ℕ) (counts : List ℕ) (count : ℕ)
    → refusal_lines n (counts ++ count ∷ []) ≡ refusal_lines n counts ++ refusal_line (n + length counts) count
unfolding refusal_lines
lines_more n [] count = rw add-zero (append-nil (refusal_line n count))
lines_more n (c ∷ counts) count =
    let at : n + suc (length counts) ≡ suc n + length counts = omega arith in
    rw at (ap (λ (l : List ℕ). refusal_line n c ++ l) (lines_more (suc n) counts count)
    ∙ sym (append_assoc (refusal_line n c) (refusal_lines (suc n) counts) (refusal_line (suc n + length counts) count)))

-- a loop over the counts: n lines are written
pub record Refusing (counts l : List ℕ) (i : ℕ) (m : List ℕ) (end n : ℕ) : Type 0 where
  pub upto : n ≤ length counts
  pub size : length m ≡ length l
  pub so_far : Written (refusal_room * n) l i (refusal_lines 0 (take n counts)) m end

pub refusing-none : (counts l : List ℕ) (i : ℕ) → Refusing counts l i l i 0
unfolding refusal_lines
refusing-none counts l i = record { upto = omega arith; size = refl; so_far = written_none 0 l i [] l i }

module _ (counts l : List ℕ) (i : ℕ) (m : List ℕ) (end n : ℕ) (r : Refusing counts l i m end n) where
  pub refusing-more : (m' : List ℕ) (end' count : ℕ) → n < length counts → count ≡ get_or counts n 0 → length m' ≡ length m
      → Written refusal_room m end (refusal_line n count) m' end' → Refusing counts l i m' end' (n + 1)
  refusing-more m' end' count h e same w = record {
    upto = omega arith;
    size = same ∙ r.size;
    so_far =
        let lines : refusal_lines 0 (take (n + 1) counts) ≡ refusal_lines 0 (take n counts) ++ refusal_line n count =
        rw (add-one, take-suc counts n 0 h, ← e)
        (lines_more 0 (take n counts) count
        ∙ ap (λ (k : ℕ). refusal_lines 0 (take n counts) ++ refusal_line k count) (rw zero-add (length-take-le n counts (omega arith)))) in
        rw lines
        (written-within _ _ _ _ _ _ (written_then _ _ _ _ _ _ refusal_room _ _ _ r.so_far w) (refusal_room * (n + 1)) (omega arith));
  }

  pub refusing-all : (most : ℕ) → length counts ≤ n → refusal_room * n ≤ most → Written most l i (refusal_lines 0 counts) m end
  refusing-all most h few = written-within _ _ _ _ _ _ (rw (take_all n counts h) at r.so_far) most few
