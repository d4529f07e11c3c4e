-- `floats::path_number` meets its contract: an f64 that equals a whole number up to 1,024 passes each test, and is that number.
-- Assumes nothing.
-- what the two tests let pass
use Rattle.std.proofs.Common.{◌≡◌, ℕ, ◌≤◌, true, pos, sym, ap, ◌∙◌, true≢false, arith, w32}
use lib.Ieee.{of_bits, eq, ne}
use mir.Facts.{to_z_pos}
use borrow.Author.Tests.{not-true, not-false}
use Rattle.floats.specs.Float.{float}
use Rattle.floats.proofs.Near.{Inside, inside}
use Rattle.floats.proofs.Numbers.{equals, path_is, path-none}
use Rattle.floats.proofs.path_number.Goals as goal

pub truncating_f64_to_u64-k-requires : goal.truncating_f64_to_u64-k-requires
unfolding of_bits
truncating_f64_to_u64-k-requires c =
    let i : Inside c.args.x = inside _ c.if-not-x.false c.if-x.false in
    record { lower_bound = i.over; upper_bound = i.under }

pub returns-then-not-x : goal.returns-then-not-x
unfolding of_bits
returns-then-not-x c =
    let below = c.if-not-x.true in
    c.none.ensures ∙ ap pos (path-none c.args.x (λ k h t. true≢false (sym (equals _ k h t).above ∙ below)))

pub returns-then-x : goal.returns-then-x
unfolding of_bits
returns-then-x c =
    let below = sym c.if-x.true in
    c.none-then-x.ensures ∙ ap pos (path-none c.args.x (λ k h t. true≢false (below ∙ (equals _ k h t).below)))

pub returns-then-nearest_u64_to_f64-x : goal.returns-then-nearest_u64_to_f64-x
unfolding ne float
returns-then-nearest_u64_to_f64-x c =
    let x = c.args.x in
    let other = ap (λ y. eq y x) (sym c.nearest_u64_to_f64.ensures) ∙ not-true _ c.if-nearest_u64_to_f64-x.true in
    c.none-then-nearest_u64_to_f64-x.ensures ∙ ap pos (path-none x (λ k h t. true≢false (sym t ∙ ap (λ n. eq (float (pos n)) x) (sym ((let h : (k : ℕ) → k ≤ 1024 → eq (float (pos k)) c.args.x ≡ true → c.truncating_f64_to_u64-k.result ≡ k = λ k. λ h. λ t. c.truncating_f64_to_u64-k.ensures ∙ (equals _ k h t).cut in h) k h t)) ∙ other)))

pub overflow_cast-result : goal.overflow_cast-result
unfolding of_bits
overflow_cast-result c = let f = (let h : c.truncating_f64_to_u64-k.result ≤ 1024 = let e = c.truncating_f64_to_u64-k.ensures in let f = ((let h : Inside c.args.x = inside _ c.if-not-x.false c.if-x.false in h)).few in omega arith in h) in record { sfits = omega arith }

pub returns : goal.returns
unfolding ne float of_bits
returns c =
    let x = c.args.x in
    let f = (let h : c.truncating_f64_to_u64-k.result ≤ 1024 = let e = c.truncating_f64_to_u64-k.ensures in let f = ((let h : Inside c.args.x = inside _ c.if-not-x.false c.if-x.false in h)).few in omega arith in h) in
    to_z_pos w32 (omega arith) ∙ ap pos (path_is x _ f (ap (λ y. eq y x) (sym c.nearest_u64_to_f64.ensures) ∙ not-false _ c.if-nearest_u64_to_f64-x.false))
