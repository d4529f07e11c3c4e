-- "fed as it comes": over any state that takes a byte, parts one after the other make the state that the uncut bytes make; and
-- a loop over a part feeds all of it. Assumes nothing.
use mathlib.Core.Path.{◌≡◌, refl, sym, ap, ◌∙◌}
use mathlib.Core.List.{List, [], ◌∷◌, ◌++◌}
use Prim.Native.Nat.{ℕ, ◌+◌, ◌-◌, ◌≤◌, ◌<◌}
use native.Mathlib.Omega.{arith}
use lib.ListN.{length, take, drop, length-drop}
use lib.Seq.{take-add, take_all}
use Rattle.feed.specs.Parts.{fed, fed_parts, uncut}

module _ {S : Type 0} (step : S → ℕ → S) where
  pub fed-more : (s : S) (a x : List ℕ) → fed step s (a ++ x) ≡ fed step (fed step s a) x
  unfolding fed
  fed-more s [] x = refl
  fed-more s (b ∷ a) x = fed-more (step s b) a x

  pub parts : (s : S) (ps : List (List ℕ)) → fed_parts step s ps ≡ fed step s (uncut ps)
  unfolding fed fed_parts uncut
  parts s [] = refl
  parts s (p ∷ ps) = parts (fed step s p) ps ∙ sym (fed-more s p (uncut ps))

-- ---- a loop over a part

-- some bytes of a part were fed
pub record Moves {S : Type 0} (step : S → ℕ → S) (s : S) (part : List ℕ) (s' : S) (n : ℕ) : Type 0 where
  pub some : 0 < n
  pub within : n ≤ length part
  pub fed_is : s' ≡ fed step s (take n part)

-- the bytes before place i were fed
pub record Passed {S : Type 0} (step : S → ℕ → S) (s₀ : S) (part : List ℕ) (s : S) (i : ℕ) : Type 0 where
  pub within : i ≤ length part
  pub fed_is : s ≡ fed step s₀ (take i part)

module _ {S : Type 0} {step : S → ℕ → S} {s₀ : S} where
  pub none_passed : (part : List ℕ) → Passed step s₀ part s₀ 0
  unfolding fed
  none_passed part = record { within = omega arith; fed_is = refl }

  module _ {part : List ℕ} {s : S} {i : ℕ} (p : Passed step s₀ part s i) where
    pub more-passed : {s' : S} {n : ℕ} → Moves step s (take (length part - i) (drop i part)) s' n → Passed step s₀ part s' (i + n)
    more-passed {n = n} m =
        let here : take (length part - i) (drop i part) ≡ drop i part =
        take_all (length part - i) (drop i part) (rw length-drop (omega arith)) in
        let size : n ≤ length part - i = rw (here, length-drop) at m.within in
        let further = rw here at m.fed_is ∙ ap (λ (r : S). fed step r (take n (drop i part))) p.fed_is
        ∙ sym (fed-more step s₀ (take i part) (take n (drop i part))) in
        record { within = omega (arith, p.within); fed_is = rw take-add further }

    pub all-passed : length part ≤ i → s ≡ fed step s₀ part
    all-passed l = rw (take_all i part l) at p.fed_is
