-- `tables::seek_own` meets its contract: the loop's invariant is that no slot passed has the ID and that each was one read. Assumes nothing.
use Rattle.tables.specs.CodeLaws.{own_row, own_at, own-nothing}
use borrow.Author.Count.{below_more}
use mathlib.Core.Path.{sym, ◌∙◌}
use native.Mathlib.Omega.{arith}
use Rattle.tables.proofs.seek_own.Goals as goal

pub returns-then-holds : goal.returns-then-holds
returns-then-holds c = (own_at c.args.handles.now c.args.p.0 c.args.id.0 c.loop-k.k c.loop-k-test.true c.loop-k.invariant.before (sym (own_row c.args.handles.now c.args.p.0 c.args.id.0 c.loop-k.k) ∙ sym c.holds.ensures.0 ∙ c.if-holds.true), omega (arith, c.holds.ensures.1, c.loop-k.invariant.counted, c.loop-k-test.true))

pub loop-k-preserved : goal.loop-k-preserved
loop-k-preserved c = record {
  counted = omega (arith, c.holds.ensures.1, c.loop-k.invariant.counted);
  before = below_more _ _ c.loop-k.invariant.before (sym (own_row c.args.handles.now c.args.p.0 c.args.id.0 c.loop-k.k) ∙ sym c.holds.ensures.0 ∙ c.if-holds.false);
}

pub returns : goal.returns
returns c = (own-nothing c.args.handles.now c.args.p.0 c.args.id.0 (λ j l. c.loop-k.invariant.before j (omega (arith, c.loop-k-test.false))), omega (arith, c.loop-k.invariant.counted, c.loop-k.auto.k-end))
