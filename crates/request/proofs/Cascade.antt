-- The laws of a table of refusals, for every table: the first test that holds decides; number 0 means that none holds; a
-- refusal has count 0. Assumes nothing.
use mathlib.Core.Path.{◌≡◌, refl, ap}
use mathlib.Core.Logic.{◌↔◌}
use mathlib.Core.Bool.{Bool, true, false, cond}
use mathlib.Core.List.{List, [], ◌∷◌, ◌++◌}
use mathlib.Core.Option.{Option, none, some}
use Prim.Native.Nat.{ℕ}
use native.Mathlib.Omega.{arith}
use lib.Dec.{T, eqb}
use borrow.Author.Tests.{eq-eqb}
use Rattle.request.specs.declared.Answer.{Answer}
use Rattle.request.specs.Cascade.{Test, first, refused, decided}

-- of every test of a table
unfoldable pub Each : (Test → Type 0) → List Test → Type 0
Each P [] = Unit {0}
Each P (t ∷ rest) = P t × Each P rest

-- no test of a table holds
abbrev pub None : List Test → Type 0
None tests = Each (λ t. t.holds ≡ false) tests

-- a test that holds where none before it does
pub record Decides (tests : List Test) (t : Test) : Type 0 where
  pub before : List Test
  pub after : List Test
  pub table : tests ≡ before ++ (t ∷ after)
  pub none_before : None before
  pub holds : t.holds ≡ true

-- ---- one step, as code makes it
module _ (t : Test) (rest : List Test) (last : Answer) where
  pub here : t.holds ≡ true → decided (first (t ∷ rest)) last ≡ refused t.number t.place
  unfolding first decided
  here e = rw e

  pub past : t.holds ≡ false → decided (first (t ∷ rest)) last ≡ decided (first rest) last
  unfolding first
  past e = rw e

pub end : (last : Answer) → decided (first []) last ≡ last
unfolding first decided
end last = refl

-- ---- the first test that holds decides
to : (tests : List Test) (t : Test) → first tests ≡ some t → Decides tests t
unfolding first Each
to [] t e = let never : ◌≡◌ {A = ℕ} 0 1 = cc in absurd (omega arith)
to (s ∷ rest) t e = go s.holds refl e (to rest t)
  where
    go : (b : Bool) → s.holds ≡ b → cond b (some s) (first rest) ≡ some t → (first rest ≡ some t → Decides rest t) → Decides (s ∷ rest) t
    go true h e later =
        let same : s ≡ t = cc in
        record { before = []; after = rest; table = ap (λ x. x ∷ rest) same; none_before = tt; holds = rw same at h }
    go false h e later =
        let d = later e in
        record {
          before = s ∷ d.before;
          after = d.after;
          table = ap (λ l. s ∷ l) d.table;
          none_before = (h, d.none_before);
          holds = d.holds;
        }

from : (before after : List Test) (t : Test) → None before → t.holds ≡ true → first (before ++ (t ∷ after)) ≡ some t
unfolding first Each
from [] after t n h = rw h
from (s ∷ before) after t n h = rw n.0 (from before after t n.1 h)

pub first-exact : (tests : List Test) (t : Test) → (first tests ≡ some t) ↔ Decides tests t
first-exact tests t = (to tests t, λ d. rw d.table (from d.before d.after t d.none_before d.holds))

-- whatever holds of each refusal, and of the last word where no test holds, holds of what is decided
pub decided-is : (P : Answer → Type 0) (tests : List Test) (last : Answer) → Each (λ t. P (refused t.number t.place)) tests
    → (None tests → P last) → P (decided (first tests) last)
unfolding first decided Each
decided-is P [] last each word = word tt
decided-is P (t ∷ rest) last each word = go t.holds refl (λ h. decided-is P rest last each.1 (λ n. word (h, n)))
  where
    go : (b : Bool) → t.holds ≡ b → (t.holds ≡ false → P (decided (first rest) last)) → P (decided (cond b (some t) (first rest)) last)
    go true h later = each.0
    go false h later = later h

-- ---- number 0 means that none holds
-- no test of a table has number 0
unfoldable pub numbered : List Test → Bool
numbered [] = true
numbered (t ∷ rest) = cond (eqb t.number 0) false (numbered rest)

pub none-holds : (tests : List Test) (last : Answer) → T (numbered tests) → (decided (first tests) last).number ≡ 0 → None tests
unfolding first decided refused Each numbered
none-holds [] last all zero_is = tt
none-holds (t ∷ rest) last all zero_is = go t.holds refl zero_is (none-holds rest last (left (eqb t.number 0) all))
  where
    left : (b : Bool) → T (cond b false (numbered rest)) → T (numbered rest)
    left true e = absurd e
    left false e = e

    go : (b : Bool) → t.holds ≡ b → (decided (cond b (some t) (first rest)) last).number ≡ 0
        → ((decided (first rest) last).number ≡ 0 → None rest) → None (t ∷ rest)
    go true h e later = absurd (rw (eq-eqb t.number 0 e) at all)
    go false h e later = (h, later e)

pub last_word : (tests : List Test) (last : Answer) → None tests → decided (first tests) last ≡ last
unfolding first decided Each
last_word [] last n = refl
last_word (t ∷ rest) last n = rw n.0 (last_word rest last n.1)

-- ---- a refusal has count 0
pub refused_none : (tests : List Test) (last : Answer) → last.number ≡ 0 → ((decided (first tests) last).number ≡ 0 → ⊥)
    → (decided (first tests) last).count ≡ 0
unfolding decided refused
refused_none tests last zero_is = go (first tests)
  where
    go : (o : Option Test) → ((decided o last).number ≡ 0 → ⊥) → (decided o last).count ≡ 0
    go none refusal = absurd (refusal zero_is)
    go (some t) refusal = refl
