-- The arrays that hold a state. Assumes nothing.
use mathlib.Core.Path.{◌≡◌}
use mathlib.Core.Bool.{Bool, true, false}
use mathlib.Core.List.{List, [], ◌∷◌}
use Prim.Native.Nat.{ℕ}
use lib.IntN.{ℤ}
use mir.Val.{bool_byte}
use Rattle.day.specs.declared.sheets.Span.{Span}
use Rattle.day.specs.declared.daily.State.{State}
use Rattle.lean_sheet.specs.Fed.{counts_of, span_of, Holds}

pub counts-are : (rest odd flag : ℕ) (some : Bool) → flag ≡ bool_byte some → rest ∷ odd ∷ flag ∷ [] ≡ counts_of rest odd some
unfolding counts_of
counts-are rest odd flag true e = rw e
counts-are rest odd flag false e = rw e

pub span_is : (s : Span) (a b : ℤ) → a ≡ s.least → b ≡ s.most → a ∷ b ∷ [] ≡ span_of s
unfolding span_of
span_is s a b e f = rw (e, f)

pub held_in : {s t : State} {held counts refusals : List ℕ} {span : List ℤ} → s ≡ t → held ≡ s.held
    → counts ≡ counts_of s.rest s.sheet.odd s.sheet.span.some → refusals ≡ s.sheet.refusals
    → span ≡ span_of s.sheet.span → Holds t held counts refusals span
held_in e a b c d = rw (← e) (record { held_is = a; counts_is = b; refusals_is = c; span_is = d })
