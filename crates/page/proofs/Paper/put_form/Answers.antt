-- `page::Paper::put_form` meets its contract: each byte of the forms is passed over, a mark, a mark's number, text or the form's end. Assumes nothing.
use mathlib.Core.Path.{sym, ◌∙◌}
use Prim.Native.Nat.{◌+◌, ◌*◌}
use mathlib.Core.Path.{◌≡◌}
use native.Mathlib.Omega.{arith}
use Rattle.page.specs.Form.{formed}
use Rattle.page.proofs.Putting.{onward-none, onward-all}
use Rattle.page.proofs.Forming.{form-over, form-on, number-put, mark-read, text_put, form-end, pieces-over}
use Rattle.page.proofs.Paper.put_form.Goals as goal
use Rattle.page.proofs.Paper.put_form.Goals.{then-before-gt0+then-c-eq59, then-before-gt0+else-c-eq59, else-before-gt0+in-Some, else-before-gt0+in_default+then-is_mark, else-before-gt0+in_default+else-is_mark+else-c-eq59-2}

pub loop-c-init : goal.loop-c-init
unfolding formed
loop-c-init c = let start : 256 * c.args.k + 0 ≡ 256 * c.args.k = omega arith in rw start (record { so_far = onward-none _ _; waits = tt })

pub loop-c-preserved : goal.loop-c-preserved
loop-c-preserved c =
    let a = c.args in
    let so_far = c.loop-c.invariant.so_far in
    elim c.if-before-gt0.branch [
      | then-before-gt0+then-c-eq59 w ↦ rw (w.self-is, w.before-is, w.mark-is) (record {
        so_far = form-over _ _ _ _ a.a.now a.b.now a.n a.m c.loop-c-test.true _ _ c.loop-c.mark so_far w.if-before-gt0.true w.if-c-eq59.true;
        waits = c.loop-c.invariant.waits;
      })
      | then-before-gt0+else-c-eq59 w ↦ rw (w.self-is, w.before-is, w.mark-is) (record {
        so_far = form-on _ _ _ _ a.a.now a.b.now a.n a.m c.loop-c-test.true _ _ c.loop-c.mark so_far w.if-before-gt0.true w.if-c-eq59.false;
        waits = c.loop-c.invariant.waits;
      })
      | else-before-gt0+in-Some w ↦ rw (w.self-is, w.before-is, w.mark-is) (record {
        so_far =
            number-put _ _ _ _ a.a.now a.b.now a.n a.m c.loop-c-test.true _ _ c.loop-c.mark so_far w.if-before-gt0.false _ w.in-Some.is (rw w.in-Some.is at c.loop-c.invariant.waits)
            _ w.put_piece.ensures;
        waits = tt;
      })
      | else-before-gt0+in_default+then-is_mark w ↦ rw (w.self-is, w.before-is, w.mark-is) (record {
        so_far =
            mark-read _ _ _ _ a.a.now a.b.now a.n a.m c.loop-c-test.true _ _ c.loop-c.mark so_far w.if-before-gt0.false w.in_default.is (sym w.is_mark.ensures ∙ w.if-is_mark.true);
        waits = sym w.is_mark.ensures ∙ w.if-is_mark.true;
      })
      | else-before-gt0+in_default+else-is_mark+else-c-eq59-2 w ↦ rw (w.self-is, w.before-is, w.mark-is) (record {
        so_far =
            text_put _ _ _ _ a.a.now a.b.now a.n a.m c.loop-c-test.true _ _ c.loop-c.mark so_far w.if-before-gt0.false w.in_default.is (sym w.is_mark.ensures ∙ w.if-is_mark.false)
            w.if-c-eq59-2.false _ w.put.ensures;
        waits = c.loop-c.invariant.waits;
      })
    ]

pub returns-then-c-eq59-2 : goal.returns-then-c-eq59-2
returns-then-c-eq59-2 c =
    let a = c.args in
    form-end _ _ _ _ a.a.now a.b.now a.n a.m c.loop-c-test.true _ _ c.loop-c.mark c.loop-c.invariant.so_far c.if-before-gt0.false c.in_default.is (sym c.is_mark.ensures ∙ c.if-is_mark.false)
    c.if-c-eq59-2.true

pub returns : goal.returns
returns c = onward-all _ _ _ _ c.loop-c.invariant.so_far (pieces-over _ c.args.forms.now c.loop-c.c-index _ _ _ _ (omega arith))
