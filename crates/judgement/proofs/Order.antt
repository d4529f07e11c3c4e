-- What the door's own table leaves where none of its tests holds, and where one does. Assumes nothing.
use mathlib.Core.Path.{◌≡◌, refl}
use mathlib.Core.Bool.{true, false}
use mathlib.Core.List.{List}
use mathlib.Core.Option.{Option, none, some}
use Prim.Native.Nat.{ℕ}
use Rattle.request.specs.units.Bounds.{stale}
use Rattle.request.specs.declared.Answer.{Answer}
use Rattle.request.specs.Cascade.{Test, first, refused, decided}
use Rattle.request.specs.Refusal.{not_kind, not_degree}
use Rattle.request.proofs.Cascade.{Each, None, decided-is, numbered, none-holds, last_word, refused_none}
use Rattle.judgement.specs.Record.{head_in, is_aged, missing_age, age_by, age_in}
use Rattle.judgement.specs.Judgement.{not_frame, not_body, refusals_by, door_refusals, tested, composed, judged_by, judged}

-- none of the door's tests holds
pub record Passed (request : List ℕ) : Type 0 where
  pub frame : not_frame request ≡ false
  pub kind : not_kind (head_in request) ≡ false
  pub degrees : not_degree (head_in request) ≡ false
  pub fresh : stale (age_in request) ≡ false
  pub body : not_body request ≡ false

module _ (request : List ℕ) where
  all-passed : None (door_refusals request) → Passed request
  unfolding refusals_by Each
  all-passed n = record { frame = n.0; kind = n.1.0; degrees = n.1.1.0; fresh = n.1.1.1.0; body = n.1.1.1.1.0 }

  -- whatever holds of the door's own refusals, and of the composer's answer where no test holds, holds of what is answered
  pub judged-is : (P : Answer → Type 0) → P (refused 9 0) → P (refused 1 0) → P (refused 2 0) → P (refused 10 0)
      → (Passed request → P (composed request)) → P (judged request)
  unfolding judged_by refusals_by Each
  judged-is P nine one two ten last =
      decided-is P (door_refusals request) _ (nine, (one, (two, (ten, (nine, tt))))) (λ n. last (all-passed n))

-- where the door's own table leaves number 0 none of its tests holds; otherwise it has the last word
module _ (request : List ℕ) where
  pub passed : (tested request).number ≡ 0 → Passed request
  unfolding tested refusals_by numbered
  passed zero_is = all-passed request (none-holds (door_refusals request) (refused 0 0) tt zero_is)

  pub composed-last : (tested request).number ≡ 0 → judged request ≡ composed request
  unfolding tested judged_by refusals_by numbered
  composed-last zero_is =
      last_word (door_refusals request) (composed request) (none-holds (door_refusals request) (refused 0 0) tt zero_is)

  pub table-last : ((tested request).number ≡ 0 → ⊥) → judged request ≡ tested request
  unfolding tested judged_by decided refused
  table-last refusal = go (first (door_refusals request)) refusal
    where
      go : (o : Option Test) → ((decided o (refused 0 0)).number ≡ 0 → ⊥) → decided o (composed request) ≡ decided o (refused 0 0)
      go none other = absurd (other refl)
      go (some t) other = refl

  pub table_none : ((tested request).number ≡ 0 → ⊥) → (tested request).count ≡ 0
  unfolding tested refused
  table_none refusal = refused_none (door_refusals request) (refused 0 0) refl refusal

-- "No age means old": a request that carries none is STALE where FRAME, KIND and DEGREE let it pass, whatever its body is
ageless-stale : (request : List ℕ) → is_aged request ≡ false → stale (age_in request) ≡ true
unfolding age_by missing_age stale
ageless-stale request e = rw e

pub no-age : (request : List ℕ) → is_aged request ≡ false → not_frame request ≡ false → not_kind (head_in request) ≡ false
    → not_degree (head_in request) ≡ false → judged request ≡ refused 10 0
unfolding judged_by refusals_by first decided
no-age request e framed kinded small = rw (framed, kinded, small, ageless-stale request e)
