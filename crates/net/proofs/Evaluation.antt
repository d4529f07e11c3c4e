-- A sum over all choices of a point for each argument is the blossom at the summed points: the blossom is linear in every
-- argument. Said for any way of summing that is linear (over the points of a path, of a patch, over any list of terms), any
-- factor for each term and any reading of a term as weights. Assumes nothing.
use mathlib.Core.Path.{◌≡◌, refl, sym, ◌∙◌, ap, ap₂}
use mathlib.Core.List.{List, [], ◌∷◌, ◌++◌, map}
use Prim.Native.Nat.{ℕ, zero, suc, ◌+◌}
use native.Mathlib.Nat.{zero-add, suc-add}
use lib.IntN.{ℤ, pos}
use lib.ListN.{replicate, take, drop}
use Rattle.whole.specs.Sum.{sum_over}
use Rattle.whole.proofs.Ring.{◌⊕◌, ◌⊗◌, ring, one-⊗, ⊗-assoc}
use Rattle.whole.proofs.Sums.{sum-zero, sum-suc}
use Rattle.net.specs.Net.{Net}
use Rattle.net.specs.Blossom.{Argument}
use Rattle.net.proofs.Steps.{Weights, mix, weights_of, taken}

pub record Linear {A : Type 0} (sum : (A → ℤ) → ℤ) : Type 0 where
  pub add : (f g : A → ℤ) → sum (λ a. f a ⊕ g a) ≡ sum f ⊕ sum g
  pub scale : (c : ℤ) (f : A → ℤ) → sum (λ a. c ⊗ f a) ≡ c ⊗ sum f

-- the sum over all choices of r terms
unfoldable pub all : {A : Type 0} → ((A → ℤ) → ℤ) → ℕ → (List A → ℤ) → ℤ
all sum zero F = F []
all sum (suc r) F = sum (λ a. all sum r (λ rest. F (a ∷ rest)))

-- the product of the chosen terms' factors
unfoldable pub product : {A : Type 0} → (A → ℤ) → List A → ℤ
product m [] = pos 1
product m (a ∷ rest) = m a ⊗ product m rest

-- each weight of a reading, summed
unfoldable pub summed : {A : Type 0} → ((A → ℤ) → ℤ) → (A → ℤ) → (A → Weights) → Weights
summed sum m w = record { x = sum (λ a. m a ⊗ (w a).x); y = sum (λ a. m a ⊗ (w a).y); z = sum (λ a. m a ⊗ (w a).z) }

-- the statement: where `chosen` gives the weights of a choice of r terms, the sum over all choices takes the weights ws
abbrev pub Evaluates : {A : Type 0} → ((A → ℤ) → ℤ) → (A → ℤ) → ℕ → (List A → List Weights) → List Weights → Type 0
Evaluates sum m r chosen ws = (p : Net) → all sum r (λ c. product m c ⊗ taken (chosen c) p) ≡ taken ws p

module _ {A : Type 0} (sum : (A → ℤ) → ℤ) where
  pub under : (f g : A → ℤ) → ((a : A) → f a ≡ g a) → sum f ≡ sum g
  under f g e = λ t. sum (λ a. e a t)

  pub all_under : (r : ℕ) (F G : List A → ℤ) → ((c : List A) → F c ≡ G c) → all sum r F ≡ all sum r G
  all_under r F G e = λ t. all sum r (λ c. e c t)

module _ {A : Type 0} (sum : (A → ℤ) → ℤ) (linear : Linear sum) where
  pub all-linear : (r : ℕ) → Linear (all sum r)
  unfolding all
  all-linear zero = record { add = λ f g. refl; scale = λ c f. refl }
  all-linear (suc r) = record {
    add = λ f g. under sum _ _ (λ a. (all-linear r).add (λ rest. f (a ∷ rest)) (λ rest. g (a ∷ rest))) ∙ linear.add _ _;
    scale = λ c f. under sum _ _ (λ a. (all-linear r).scale c (λ rest. f (a ∷ rest))) ∙ linear.scale c _;
  }

  -- a sum over i + k = n may be exchanged with any linear one
  pub through : (n : ℕ) (H : ℕ → ℕ → A → ℤ) → sum_over n (λ i k. sum (H i k)) ≡ sum (λ a. sum_over n (λ i k. H i k a))
  through zero H = sum-zero (λ i k. sum (H i k)) ∙ under sum _ _ (λ a. sym (sum-zero (λ i k. H i k a)))
  through (suc n) H =
      sum-suc n (λ i k. sum (H i k)) ∙ ap (λ x. sum (H 0 (suc n)) ⊕ x) (through n (λ i k. H (suc i) k))
      ∙ sym (linear.add (H 0 (suc n)) _) ∙ under sum _ _ (λ a. sym (sum-suc n (λ i k. H i k a)))

  module _ (m : A → ℤ) where
    three : (x y z : ℤ) (f g h : A → ℤ)
        → sum (λ a. m a ⊗ (x ⊗ f a ⊕ y ⊗ g a ⊕ z ⊗ h a)) ≡ x ⊗ sum (λ a. m a ⊗ f a) ⊕ y ⊗ sum (λ a. m a ⊗ g a) ⊕ z ⊗ sum (λ a. m a ⊗ h a)
    three x y z f g h =
        under sum _ _ (λ a. apart (m a) (f a) (g a) (h a))
        ∙ linear.add _ _ ∙ ap₂ ◌⊕◌ (linear.add _ _ ∙ ap₂ ◌⊕◌ (linear.scale x _) (linear.scale y _)) (linear.scale z _)
      where
        apart : (c f g h : ℤ) → c ⊗ (x ⊗ f ⊕ y ⊗ g ⊕ z ⊗ h) ≡ x ⊗ (c ⊗ f) ⊕ y ⊗ (c ⊗ g) ⊕ z ⊗ (c ⊗ h)
        apart c f g h = simp ring

    -- a step is linear in the net and in the weights
    pub mix-net : (w : Weights) (p : A → Net) (i j : ℕ) → mix w (λ k l. sum (λ a. m a ⊗ p a k l)) i j ≡ sum (λ a. m a ⊗ mix w (p a) i j)
    unfolding mix
    mix-net w p i j = sym (three w.x w.y w.z (λ a. p a (suc i) j) (λ a. p a i (suc j)) (λ a. p a i j))

    pub mix-weights : (w : A → Weights) (p : Net) (i j : ℕ) → mix (summed sum m w) p i j ≡ sum (λ a. m a ⊗ mix (w a) p i j)
    unfolding mix summed
    mix-weights w p i j =
        turn _ _ _ _ _ _ ∙ sym (three (p (suc i) j) (p i (suc j)) (p i j) (λ a. (w a).x) (λ a. (w a).y) (λ a. (w a).z))
        ∙ under sum _ _ (λ a. ap (λ s. m a ⊗ s) (turn _ _ _ _ _ _))
      where
        turn : (a b c d e f : ℤ) → a ⊗ b ⊕ c ⊗ d ⊕ e ⊗ f ≡ b ⊗ a ⊕ d ⊗ c ⊕ f ⊗ e
        turn a b c d e f = simp ring

    pub taken-net : (ws : List Weights) (p : A → Net) → taken ws (λ i j. sum (λ a. m a ⊗ p a i j)) ≡ sum (λ a. m a ⊗ taken ws (p a))
    unfolding taken
    taken-net [] p = refl
    taken-net (w ∷ ws) p = (λ t. taken ws (λ i j. mix-net w p i j t)) ∙ taken-net ws (λ a. mix w (p a))

    pub none_left : (chosen : List A → List Weights) → chosen [] ≡ [] → Evaluates sum m 0 chosen []
    unfolding all product taken
    none_left chosen e p = rw e (one-⊗ (p 0 0))

    pub one_more : (r : ℕ) (w : A → Weights) (before after : List A → List Weights) (ws : List Weights)
        → ((a : A) (rest : List A) → before (a ∷ rest) ≡ w a ∷ after rest)
        → Evaluates sum m r after ws → Evaluates sum m (suc r) before (summed sum m w ∷ ws)
    unfolding all product taken
    one_more r w before after ws first rest p =
        under sum _ _ (λ a. all_under sum r _ _ (λ c. rw (first a c, ⊗-assoc)) ∙ (all-linear r).scale (m a) _ ∙ ap (λ s. m a ⊗ s) (rest (mix (w a) p)))
        ∙ sym (ap (taken ws) (λ t i j. mix-weights w p i j t) ∙ taken-net ws (λ a. mix (w a) p))

    -- the arguments of one group, and of two
    pub one-group : (n : ℕ) (read : A → Argument) → Evaluates sum m n (λ c. map weights_of (map read c)) (replicate n (summed sum m (λ a. weights_of (read a))))
    one-group zero read = none_left (λ c. map weights_of (map read c)) refl
    one-group (suc n) read = one_more n (λ a. weights_of (read a)) _ _ _ (λ a rest. refl) (one-group n read)

    pub two-groups : (l n : ℕ) (read also : A → Argument)
        → Evaluates sum m (l + n) (λ c. map weights_of (map read (take l c) ++ map also (drop l c)))
        (replicate l (summed sum m (λ a. weights_of (read a))) ++ replicate n (summed sum m (λ a. weights_of (also a))))
    two-groups zero n read also = rw zero-add (one-group n also)
    two-groups (suc l) n read also = rw suc-add (one_more (l + n) (λ a. weights_of (read a)) _ _ _ (λ a rest. refl) (two-groups l n read also))
