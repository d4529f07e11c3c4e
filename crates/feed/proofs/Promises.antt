-- The contracts of crate feed leave no choice: each fixes its result. Assumes nothing.
use mathlib.Core.Path.{◌≡◌}
use mathlib.Core.Bool.{Bool, ◌&&◌}
use mathlib.Core.List.{List}
use Prim.Native.Nat.{ℕ, ◌+◌}
use lib.Dec.{ltb}
use lib.ListN.{length, take, set}
use Rattle.whole.proofs.Determined.{Determined}
use Rattle.pairs.specs.Cut.{starts_pair}
use Rattle.feed.specs.declared.Turn.{Turn}
use Rattle.feed.specs.Feed.{capped, held_of, Puts, Left, Hands, after_turn}

pub more-determined : (n : ℕ) → Determined (λ (r : ℕ). r ≡ capped (n + 1))
more-determined n = record { value = _; only = λ r e. e }

pub settle-determined : (held : List ℕ) (rest : ℕ) → Determined (λ (r : List ℕ). r ≡ held_of (take rest held))
settle-determined held rest = record { value = _; only = λ r e. e }

-- the array and the turn that `put` leaves
pub record PutBack : Type 0 where
  pub held : List ℕ
  pub turn : Turn

pub put-determined : (most : ℕ) (held : List ℕ) (rest b : ℕ)
    → Determined (λ (r : PutBack). Puts most held rest b r.held r.turn)
put-determined most held rest b =
    let whole = ltb rest (length held) && starts_pair most (take (rest + 1) (set held rest b)) in
    record {
      value = record { held = set held rest b; turn = record { rest = capped (rest + 1); whole = whole } };
      only = λ r p. all_of p.held_is p.rest_is p.whole_is;
    }
  where
    all_of : {r : PutBack} {l : List ℕ} {n : ℕ} {w : Bool} → r.held ≡ l → r.turn.rest ≡ n → r.turn.whole ≡ w
        → r ≡ record { held = l; turn = record { rest = n; whole = w } }
    all_of e f g = rw (← e, ← f, ← g)

-- and what `next` leaves
pub next-determined : (most : ℕ) (held : List ℕ) (rest : ℕ) (part : List ℕ)
    → Determined (λ (r : Left). Hands most held rest part r.held r.handed)
next-determined most held rest part = record {
  value = after_turn most held rest part;
  only = λ r h t. record { held = h.leaves.held_is t; handed = h.leaves.handed_is t };
}
