-- The contract of `lean_sheet`: the state of the daily sheet in four lent arrays, before a part and after it. Assumes nothing.
use Rattle.std.specs.Prelude.{◌≡◌, Bool, not, cond, List, [], ◌∷◌, ℕ, eqb, ℤ, pos, get_or}
use Rattle.day.specs.declared.sheets.Span.{Span}
use Rattle.day.specs.declared.daily.State.{State}
use Rattle.day.specs.daily.Read.{after_part}

-- what the arrays hold: `counts` has the rest, `odd`, and another number than 0 where there was a point
unfoldable pub span_in : List ℕ → List ℤ → Span
span_in counts span =
    record { some = not (eqb (get_or counts 2 0) 0); least = get_or span 0 (pos 0); most = get_or span 1 (pos 0) }

unfoldable pub state_in : List ℕ → List ℕ → List ℕ → List ℤ → State
state_in held counts refusals span =
    record {
      held = held;
      rest = get_or counts 0 0;
      sheet = record { odd = get_or counts 1 0; refusals = refusals; span = span_in counts span };
    }

-- the arrays that hold a state
unfoldable pub counts_of : ℕ → ℕ → Bool → List ℕ
counts_of rest odd some = rest ∷ odd ∷ cond some 1 0 ∷ []

unfoldable pub span_of : Span → List ℤ
span_of span = span.least ∷ span.most ∷ []

pub record Holds (state : State) (held counts refusals : List ℕ) (span : List ℤ) : Type 0 where
  pub held_is : held ≡ state.held
  pub counts_is : counts ≡ counts_of state.rest state.sheet.odd state.sheet.span.some
  pub refusals_is : refusals ≡ state.sheet.refusals
  pub span_is : span ≡ span_of state.sheet.span

abbrev pub Fed : List ℕ → List ℕ → List ℕ → List ℤ → List ℕ → List ℕ → List ℕ → List ℕ → List ℤ → Type 0
Fed held counts refusals span part = Holds (after_part (state_in held counts refusals span) part)
