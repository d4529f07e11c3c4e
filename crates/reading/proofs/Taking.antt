-- Laws of the reading of an input: over any state that takes a part, no part was read yet, or one more. Assumes nothing.
use mathlib.Core.Path.{◌≡◌, refl, sym, ap, ◌∙◌}
use mathlib.Core.Bool.{true, false, false≢true}
use mathlib.Core.List.{List, [], ◌∷◌, ◌++◌, append-nil, append_assoc}
use Prim.Native.Nat.{ℕ, ◌≤◌}
use lib.ListN.{length, take}
use Rattle.std.specs.List.{FoldsTo}
use Rattle.spell.specs.Decimal.{Told}
use Rattle.spell.proofs.Writing.{told-front}
use Rattle.feed.specs.Parts.{uncut, after_all}
use Rattle.streams.specs.declared.Stream.{Stream}
use Rattle.streams.specs.Stream.{Through, through-none, through-more, Wrote}
use Rattle.reading.specs.Parts.{Reads, Took, Tells}

uncut-more : (a b : List (List ℕ)) → uncut (a ++ b) ≡ uncut a ++ uncut b
unfolding uncut
uncut-more [] b = refl
uncut-more (x ∷ a) b = rw (uncut-more a b) (sym (append_assoc x (uncut a) (uncut b)))

-- nothing was read yet; and one part more
module _ {S : Type 0} (takes : S → List ℕ → S → Type 0) where
  pub reads_none : (i : Stream) (s : S) → Reads takes i s i s
  unfolding uncut
  reads_none i s = record { parts = []; went = through-none i; taken = refl }

  folds_more : (s : S) (parts : List (List ℕ)) {m : S} {part : List ℕ} {s' : S} → FoldsTo takes s parts m → takes m part s'
      → FoldsTo takes s (parts ++ part ∷ []) s'
  folds_more s [] {m} {part} {s'} e t = (s', rw e t, refl)
  folds_more s (p ∷ parts) f t = (f.0, f.1, folds_more f.0 parts f.2 t)

  pub reads_more : {i : Stream} {s : S} {i' : Stream} {m : S} {part : List ℕ} {i'' : Stream} {s' : S} → Reads takes i s i' m
      → Through i' part i'' → takes m part s' → Reads takes i s i'' s'
  unfolding uncut
  reads_more {i} {s} {i'} {m} {part} {i''} r w t = record {
    parts = r.parts ++ part ∷ [];
    went = rw (uncut-more r.parts (part ∷ []), append-nil) (through-more i (uncut r.parts) i' part i'' r.went w);
    taken = folds_more s r.parts r.taken t;
  }

  -- where a part is taken by a function
  module _ (step : S → List ℕ → S) (by : (s : S) (part : List ℕ) (s' : S) → takes s part s' → s' ≡ step s part) where
    by-function : (s : S) (parts : List (List ℕ)) (s' : S) → FoldsTo takes s parts s' → s' ≡ after_all step s parts
    unfolding after_all
    by-function s [] s' e = sym e
    by-function s (part ∷ parts) s' f =
        by-function f.0 parts s' f.2 ∙ ap (λ (t : S). after_all step t parts) (by s part f.0 f.1)

    pub took : {i : Stream} {s : S} {i' : Stream} {s' : S} → Reads takes i s i' s' → Took step i s i' s'
    took {s = s} {s' = s'} r = record { parts = r.parts; went = r.went; after = by-function s r.parts s' r.taken }

module _ {S : Type 0} (step : S → List ℕ → S) where
  after_more : (s : S) (a b : List (List ℕ)) → after_all step s (a ++ b) ≡ after_all step (after_all step s a) b
  unfolding after_all
  after_more s [] b = refl
  after_more s (p ∷ a) b = after_more (step s p) a b

  pub took-none : (i : Stream) (s : S) → Took step i s i s
  unfolding after_all uncut
  took-none i s = record { parts = []; went = through-none i; after = refl }

  pub took_one : (i : Stream) (s : S) (i' : Stream) (s' : S) (part : List ℕ) → Through i part i' → s' ≡ step s part
      → Took step i s i' s'
  unfolding after_all uncut
  took_one i s i' s' part t e = record { parts = part ∷ []; went = rw append-nil t; after = e }

  pub took_more : (i : Stream) (s : S) (i' : Stream) (s' : S) (i'' : Stream) (s'' : S) → Took step i s i' s' → Took step i' s' i'' s''
      → Took step i s i'' s''
  took_more i s i' s' i'' s'' p q = record {
    parts = p.parts ++ q.parts;
    went = rw (uncut-more p.parts q.parts) (through-more i (uncut p.parts) i' (uncut q.parts) i'' p.went q.went);
    after = q.after ∙ ap (λ (t : S). after_all step t q.parts) p.after ∙ sym (after_more s p.parts q.parts);
  }

-- what was read to its end, or to where a read failed, by a state whose answer is that of all that it took
module _ {S A : Type 0} (step : S → List ℕ → S) (none : S) (answer : S → A) (of : List ℕ → A) (lines : A → List ℕ)
    (whole : (parts : List (List ℕ)) → answer (after_all step none parts) ≡ of (uncut parts))
    {input : Stream} {first : S} {i : Stream} {s : S} {a : A} (begins : first ≡ none) (took : Took step input first i s)
    (ends : a ≡ answer s) where
  answer-is : a ≡ of (uncut took.parts)
  answer-is = ends ∙ ap answer (took.after ∙ ap (λ (r : S). after_all step r took.parts) begins) ∙ whole took.parts

  pub failed : (out : Stream) → i.failed ≡ true → Tells of lines input out i out a
  failed out f = record {
    bytes = uncut took.parts;
    went = took.went;
    is = answer-is;
    told = λ e. absurd (false≢true (sym e ∙ f));
    none = λ e. refl;
  }

  -- the lines as they were put into a buffer
  pub written : (room : ℕ) (out o : Stream) (l l' : List ℕ) (n : ℕ) → i.failed ≡ false → room ≤ length l → Told room (lines a) l n l'
      → Wrote out (take n l') o → Tells of lines input out i o a
  written room out o l l' n f enough t w = record {
    bytes = uncut took.parts;
    went = took.went;
    is = answer-is;
    told = λ e. rw (told-front room (lines a) l l' n enough t ∙ ap lines answer-is) at w;
    none = λ e. absurd (false≢true (sym f ∙ e));
  }
