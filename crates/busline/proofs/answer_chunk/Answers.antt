-- `busline::answer_chunk` meets its contract: each call starts where the one before stopped. Assumes nothing.
use Rattle.bus.specs.Lent.{same-self, same-again}
use Rattle.session.specs.Laws.{chunk-none, chunk-more, chunk-all, goes_on_lem}
use borrow.Author.Tests.{not-true, not-false}
use native.Mathlib.Omega.{arith}
use Rattle.busline.proofs.answer_chunk.Goals as goal

pub loop-p-init : goal.loop-p-init
loop-p-init g c = record { same = same-self; done = chunk-none _ _; within = omega arith }

pub returns-then-is_err-clause-done : goal.returns-then-is_err-clause-done
returns-then-is_err-clause-done g c = (_, chunk-more c.loop-p.invariant.done c.answer_lines-p.ensures.done.0)

pub returns-then-not-p-clause-done : goal.returns-then-not-p-clause-done
returns-then-not-p-clause-done g c = chunk-all (chunk-more c.loop-p.invariant.done c.answer_lines-p.ensures.done.0) (c.answer_lines-p.ensures.done.1.piece (not-true _ c.if-not-p.true))

pub loop-p-smaller : goal.loop-p-smaller
loop-p-smaller g c =
    let h = c.answer_lines-p.ensures.done.0 in
    let m = goes_on_lem _ _ _ c.loop-p.text _ _ _ _ h (rw (not-false _ c.if-not-p.false) at c.answer_lines-p.ensures.done.1) (omega (arith, c.loop-p.auto.text, c.requires)) in
    let w = h.between.within in omega (arith, m, w)

pub loop-p-preserved : goal.loop-p-preserved
loop-p-preserved g c =
    record {
      same = same-again c.loop-p.invariant.same c.answer_lines-p.ensures.same;
      done = chunk-more c.loop-p.invariant.done c.answer_lines-p.ensures.done.0;
      within = c.answer_lines-p.ensures.done.0.between.within;
    }
