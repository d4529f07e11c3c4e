-- "All control values negated, all points negated" (rule Port and starboard; 02, ticket 2), over the definitions: a mirrored
-- request gets the same answer, its numerators are the negated ones since the blossom is linear in the net, and its points are the
-- negated ones since rounding mirrors. Assumes nothing.
use mathlib.Core.Path.{◌≡◌, refl, sym, ◌∙◌, ap}
use mathlib.Core.Bool.{cond}
use mathlib.Core.List.{List, map}
use Prim.Native.Nat.{ℕ}
use lib.Dec.{eqb}
use lib.IntN.{ℤ, pos, negsuc, neg_ℤ}
use lib.ListN.{length-map, get_or-map}
use Rattle.whole.specs.Sum.{sum_to}
use Rattle.whole.specs.Round.{nearest}
use Rattle.whole.proofs.Ring.{◌⊗◌, ⊝◌, minus-⊗, ⊗-left-comm}
use Rattle.whole.proofs.Rounding.{nearest-neg}
use Rattle.request.specs.declared.Rooms.{Rooms}
use Rattle.request.specs.Head.{degree}
use Rattle.request.specs.Request.{Request}
use Rattle.request.specs.Refusal.{refusals, answer, not_surface, not_path, not_value, not_parameter, not_balance}
use Rattle.request.proofs.Bounds.{value-mirrored}
use Rattle.net.specs.Net.{Net, place_of, net_of, path_number}
use Rattle.net.specs.Blossom.{Argument, blossom}
use Rattle.net.specs.Composed.{over_choices, total, weight, arguments, numerator, denominator, point}
use Rattle.net.specs.Mirror.{mirrored}
use Rattle.net.proofs.Steps.{weights_of, blossom-taken}
use Rattle.net.proofs.Evaluation.{Linear, all-linear, taken-net}
use Rattle.net.proofs.Powers.{sum_to-linear, choices-all, scale-cond}

-- ---- the answer
pub answer-mirrored : (rq : Request) (age : ℕ) (rooms : Rooms) → answer (mirrored rq) age rooms ≡ answer rq age rooms
unfolding mirrored refusals answer not_surface not_path not_value not_parameter not_balance
answer-mirrored rq age rooms = rw (length-map rq.surface neg_ℤ, value-mirrored rq.surface)

-- ---- the numerators: −1 times a net has −1 times its blossom
single : Linear {A = Unit {0}} (λ f. f tt)
single = record { add = λ f g. refl; scale = λ c f. refl }

blossom-scale : (c : ℤ) (arguments : List Argument) (p : Net) → blossom arguments (λ i j. c ⊗ p i j) ≡ c ⊗ blossom arguments p
blossom-scale c arguments p =
    blossom-taken arguments _ ∙ taken-net (λ f. f tt) single (λ a. c) (map weights_of arguments) (λ a. p) ∙ ap (λ x. c ⊗ x) (sym (blossom-taken arguments p))

-- and so has every sum over choices that is weighed
scaled : (c : ℤ) (r N R : ℕ) (arguments : List ℕ → List Argument) (p : Net)
    → over_choices r N (λ choice. cond (eqb (total choice) R) (pos (weight N choice) ⊗ blossom (arguments choice) (λ i j. c ⊗ p i j)) (pos 0))
    ≡ c ⊗ over_choices r N (λ choice. cond (eqb (total choice) R) (pos (weight N choice) ⊗ blossom (arguments choice) p) (pos 0))
scaled c r N R arguments p =
    (λ t. over_choices r N (λ choice. each choice t)) ∙ choices-all r N _ ∙ (all-linear (sum_to N) (sum_to-linear N) r).scale c _ ∙ ap (λ x. c ⊗ x)
    (sym (choices-all r N _))
  where
    each : (choice : List ℕ) → cond (eqb (total choice) R) (pos (weight N choice) ⊗ blossom (arguments choice) (λ i j. c ⊗ p i j)) (pos 0)
        ≡ c ⊗ cond (eqb (total choice) R) (pos (weight N choice) ⊗ blossom (arguments choice) p) (pos 0)
    each choice =
        ap (λ x. cond (eqb (total choice) R) x (pos 0)) (ap (λ x. pos (weight N choice) ⊗ x) (blossom-scale c (arguments choice) p) ∙ ⊗-left-comm _ c _)
        ∙ sym (scale-cond c _ (eqb (total choice) R))

net-mirrored : (rq : Request) → net_of (mirrored rq) ≡ (λ i j. negsuc 0 ⊗ net_of rq i j)
unfolding net_of mirrored ⊝◌
net-mirrored rq = λ t i j. (get_or-map neg_ℤ rq.surface (place_of rq.head i j) (pos 0) ∙ sym (minus-⊗ (net_of rq i j))) t

pub numerator-mirrored : (rq : Request) (R : ℕ) → numerator (mirrored rq) R ≡ neg_ℤ (numerator rq R)
unfolding numerator arguments path_number mirrored ◌⊗◌ ⊝◌
numerator-mirrored rq R =
    let h = rq.head in
    ap (λ p. over_choices (degree h) h.N (λ choice. cond (eqb (total choice) R) (pos (weight h.N choice) ⊗ blossom (arguments rq choice) p)
    (pos 0))) (net-mirrored rq)
    ∙ scaled (negsuc 0) (degree h) h.N R (arguments rq) (net_of rq) ∙ minus-⊗ (numerator rq R)

pub point-mirrored : (rq : Request) (R : ℕ) → point (mirrored rq) R ≡ neg_ℤ (point rq R)
unfolding point denominator mirrored
point-mirrored rq R = ap (λ n. nearest n (denominator rq R)) (numerator-mirrored rq R) ∙ nearest-neg (numerator rq R) (denominator rq R)
