-- `writing::rounded` meets its contract: the denominator is the table's, and the point is a travel. Assumes nothing.
use mathlib.Core.Path.{◌≡◌, ◌∙◌, subst}
use Prim.Native.Nat.{ℕ, ◌+◌, ◌-◌, ◌*◌, ◌^◌, ◌≤◌, ◌<◌}
use native.Mathlib.Nat.{mul-pos, one-le-pow}
use native.Mathlib.Omega.{arith}
use lib.IntN.{ℤ, nat_abs}
use Rattle.whole.specs.Choose.{choose}
use Rattle.whole.specs.Round.{nearest}
use Rattle.whole.proofs.Rounding.{nearest-size}
use Rattle.pascal.specs.Entry.{last_row}
use Rattle.pascal.proofs.Entries.{entry_in, entry-bound}
use Rattle.net.proofs.Rounded.{choose-some}
use Rattle.compose.specs.writing.Placed.{PointAt}
use Rattle.compose.proofs.writing.rounded.Goals as goal

some : (L R : ℕ) → R ≤ L → 0 < choose L R
some L R h = let e : R + (L - R) ≡ L = omega arith in subst (λ n. 0 < choose n R) e (choose-some R (L - R))

travels : (n : ℤ) (L r R : ℕ) → PointAt n L r R → nat_abs (nearest n (choose L R * 1024 ^ r)) ≤ 4096
travels n L r R p = nearest-size n (choose L R * 1024 ^ r) 4096 (mul-pos (some L R p.here) (one-le-pow r 1024 (omega arith))) p.within

pub rounded-requires : goal.rounded-requires
rounded-requires c =
    let p = c.requires in
    let d : c.binomial-d.result ≡ choose c.args.L c.args.R = c.binomial-d.ensures ∙ entry_in last_row c.args.L c.args.R p.row in
    record {
      few = p.few;
      some = rw d (some _ _ p.here);
      most = rw c.binomial-d.ensures (omega (arith, entry-bound last_row c.args.L c.args.R (omega arith)));
      within = rw d p.within;
    }

pub travel_of-requires : goal.travel_of-requires
travel_of-requires c =
    let d : c.binomial-d.result ≡ choose c.args.L c.args.R = c.binomial-d.ensures ∙ entry_in last_row c.args.L c.args.R c.requires.row in
    rw (c.rounded.ensures, d) (travels _ _ _ _ c.requires)

pub returns : goal.returns
returns c =
    let d : c.binomial-d.result ≡ choose c.args.L c.args.R = c.binomial-d.ensures ∙ entry_in last_row c.args.L c.args.R c.requires.row in
    c.travel_of.ensures ∙ rw (c.rounded.ensures, d)
