-- `two_words::rounded` meets its contract: the point of the size over 2d, on the number's side of zero. Assumes nothing.
use Rattle.std.proofs.Common.{◌≡◌, ◌*◌, ◌/◌, ◌^◌, pos, nat_abs, sym, ap, ◌∙◌, rules}
use Rattle.whole.specs.Round.{nearest, on_side_of}
use Rattle.two_words.specs.Words.{two_words}
use Rattle.two_words.proofs.Dividing.{nearest-size, size_fits, reduced, same-side, positive, small}
use Rattle.two_words.proofs.rounded.Goals as goal

pub returns : goal.returns
returns c =
    let a = c.args in
    let n = two_words a.n.high.0 a.n.low in
    let e : c.unsigned_abs.result ≡ nat_abs n = search rules in
    let x : c.size.result ≡ nat_abs (nearest (pos (2 * nat_abs n / 1024 ^ a.r)) (2 * a.d)) =
    rw (c.size.ensures.0, c.nearest-point.ensures, c.plus-twice.ensures, c.doubled.ensures.0, e) in
    c.on_side.ensures
    ∙ sym (same-side a.n.high.0 a.n.low _ c.words_worth.ensures.1)
    ∙ ap (on_side_of n) x
    ∙ reduced n a.d (1024 ^ a.r) c.requires.some (positive a.r)

pub doubled-requires : goal.doubled-requires
doubled-requires c =
    let a = c.args in
    let p = c.requires in
    let e : c.unsigned_abs.result ≡ nat_abs (two_words a.n.high.0 a.n.low) = search rules in
    rw e (p.few, small a.r a.d (two_words a.n.high.0 a.n.low) p)

pub on_side-requires : goal.on_side-requires
on_side-requires c =
    let e : c.nearest-point.result.0 ≡ nearest (pos c.doubled.result) (2 * c.args.d) = rw (c.nearest-point.ensures, c.plus-twice.ensures) in
    rw c.size.ensures.0 (size_fits _ _ (e ∙ nearest-size c.doubled.result _) c.size.ensures.1)
