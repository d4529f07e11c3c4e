-- A reader by value: it holds a feed in an array of its own, with zeros behind, and nothing else. Over any fold and any such reader,
-- parts one after the other, cut anywhere, make the reader that the uncut trace makes. Assumes nothing.
use mathlib.Core.Path.{◌≡◌, refl, sym, ap, ◌∙◌}
use mathlib.Core.List.{List, [], ◌∷◌, ◌++◌, append-nil, append_assoc}
use Prim.Native.Nat.{ℕ, ◌≤◌}
use Rattle.pairs.specs.Cut.{Pair}
use Rattle.feed.specs.Parts.{fed, uncut, after_all}
use Rattle.feed.specs.Feed.{Feed, blank, stepped, feed_of}
use Rattle.feed.proofs.Parts.{fed-more}
use Rattle.feed.proofs.Reading.{took, Proper, proper-fed}

-- what a reader holds, and the reader that holds it
module _ {A R : Type 0} (most : ℕ) (add : A → Pair → A) (none : A) (opened : R → Feed A) (shut : Feed A → R)
    (again : (s : Feed A) → Proper s → opened (shut s) ≡ s) where
  -- after a part
  abbrev takes : R → List ℕ → R
  takes r part = shut (fed (stepped most add) (opened r) part)

  -- the reader that took bytes from nothing
  abbrev taken : List ℕ → R
  taken bytes = shut (fed (stepped most add) (blank none) bytes)

  proper : (bytes : List ℕ) → Proper (fed (stepped most add) (blank none) bytes)
  unfolding blank
  proper bytes = proper-fed most add (blank none) bytes refl

  -- one part more, and parts one after the other
  more-taken : (bytes part : List ℕ) → takes (taken bytes) part ≡ taken (bytes ++ part)
  more-taken bytes part =
      ap (λ (s : Feed A). shut (fed (stepped most add) s part)) (again (fed (stepped most add) (blank none) bytes) (proper bytes))
      ∙ ap shut (sym (fed-more (stepped most add) (blank none) bytes part))

  all-taken : (bytes : List ℕ) (parts : List (List ℕ)) → after_all takes (taken bytes) parts ≡ taken (bytes ++ uncut parts)
  unfolding after_all uncut
  all-taken bytes [] = rw append-nil
  all-taken bytes (part ∷ parts) =
      ap (λ (r : R). after_all takes r parts) (more-taken bytes part)
      ∙ all-taken (bytes ++ part) parts
      ∙ ap taken (append_assoc bytes part (uncut parts))

  begun : shut (blank none) ≡ taken []
  unfolding fed
  begun = refl

  -- the uncut trace at once, and in parts: "after the last, state and sheet are those of the uncut trace"
  pub at_once : most ≤ 128 → (bytes : List ℕ) → takes (shut (blank none)) bytes ≡ shut (feed_of most add none bytes)
  at_once small bytes =
      ap (λ (r : R). takes r bytes) begun
      ∙ more-taken [] bytes
      ∙ ap shut (took most small add none bytes)

  pub in_parts : (parts : List (List ℕ)) → after_all takes (shut (blank none)) parts ≡ takes (shut (blank none)) (uncut parts)
  in_parts parts =
      ap (λ (r : R). after_all takes r parts) begun
      ∙ all-taken [] parts
      ∙ sym (more-taken [] (uncut parts))
      ∙ ap (λ (r : R). takes r (uncut parts)) (sym begun)
