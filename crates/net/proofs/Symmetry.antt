-- The blossom "does not depend on the order of the arguments within a group", nor do a u and a v argument depend on which
-- is taken first; which of two points each of them takes does matter, as P8 shows. Assumes nothing.
use mathlib.Core.Path.{◌≡◌, refl, ◌∙◌, ap}
use mathlib.Core.List.{List, [], ◌∷◌, ◌++◌}
use lib.IntN.{pos}
use Rattle.request.specs.Head.{by_form, numbers}
use Rattle.request.specs.Request.{Request}
use Rattle.net.specs.Net.{Net, place_of, net_of, number_at, path_number}
use Rattle.net.specs.Blossom.{Argument, step, blossom}
use Rattle.net.specs.Composed.{arguments}
use Rattle.net.proofs.Steps.{weights_of, step-mix, mix-comm}

steps-comm : (a b : Argument) (p : Net) → step b (step a p) ≡ step a (step b p)
steps-comm a b p = simp step-mix (λ t i j. mix-comm (weights_of b) (weights_of a) p i j t)

-- the same arguments in another order
pub data Reordered : List Argument → List Argument → Type 0 where
  none : Reordered [] []
  keep : (a : Argument) {l m : List Argument} → Reordered l m → Reordered (a ∷ l) (a ∷ m)
  exchange : (a b : Argument) (rest : List Argument) → Reordered (a ∷ b ∷ rest) (b ∷ a ∷ rest)
  and_then : {k l m : List Argument} → Reordered k l → Reordered l m → Reordered k m

pub any_order : {l m : List Argument} → Reordered l m → (p : Net) → blossom l p ≡ blossom m p
unfolding blossom
any_order none p = refl
any_order (keep a o) p = any_order o (step a p)
any_order (exchange a b rest) p = ap (blossom rest) (steps-comm a b p)
any_order (and_then o n) p = any_order o p ∙ any_order n p

-- two neighbours, wherever they stand
pub neighbours : (front : List Argument) (a b : Argument) (rest : List Argument) (p : Net)
    → blossom (front ++ (a ∷ b ∷ rest)) p ≡ blossom (front ++ (b ∷ a ∷ rest)) p
neighbours front a b rest = any_order (behind front)
  where
    behind : (front : List Argument) → Reordered (front ++ (a ∷ b ∷ rest)) (front ++ (b ∷ a ∷ rest))
    behind [] = exchange a b rest
    behind (c ∷ front) = keep c (behind front)

-- the ride P8 of 01 (rule Worked rides): form 2, degrees (1,1), path (0,1024), (1024,0)
unfoldable pub crossed : Request
crossed = record {
  head = record { form = 2; first = 1; second = 1; N = 1 };
  surface = pos 0 ∷ pos 0 ∷ pos 0 ∷ pos 400 ∷ [];
  path = pos 0 ∷ pos 1024 ∷ pos 1024 ∷ pos 0 ∷ [];
}

-- u of point 0 and v of point 1 give 0; u of point 1 and v of point 0 give 400 times 1024^2
pub points-matter :
    (blossom (arguments crossed (0 ∷ 1 ∷ [])) (net_of crossed) ≡ pos 0)
    × (blossom (arguments crossed (1 ∷ 0 ∷ [])) (net_of crossed) ≡ pos 419430400)
unfolding crossed arguments by_form number_at path_number numbers net_of place_of step blossom
points-matter = (refl, refl)
