-- `tables::place_in` meets its contract: the loop's invariant is that the halving of what is left, with the reads that are left, comes to the same place; so the counter is the bound. Assumes nothing.
use Rattle.tables.specs.CodeLaws.{halving-starts, halving-low, halving-high, halving-done}
use native.Mathlib.Omega.{arith}
use Rattle.tables.proofs.place_in.Goals as goal

pub loop-low-init : goal.loop-low-init
loop-low-init c = halving-starts _ _ _ _ _ (omega (arith, c.requires))

pub loop-low-preserved-then-id-record_at : goal.loop-low-preserved-then-id-record_at
loop-low-preserved-then-id-record_at c = halving-low c.args.handles.now c.args.p.0 c.args.id.0 c.args.n c.args.reads.now c.loop-low.low c.loop-low.high c.loop-low.reads _ _ c.loop-low.invariant c.loop-low-test.true c.record_at.ensures.0 c.record_at.ensures.2 c.if-id-record_at.true

pub loop-low-preserved : goal.loop-low-preserved
loop-low-preserved c = halving-high c.args.handles.now c.args.p.0 c.args.id.0 c.args.n c.args.reads.now c.loop-low.low c.loop-low.high c.loop-low.reads _ _ c.loop-low.invariant c.loop-low-test.true c.record_at.ensures.0 c.record_at.ensures.2 c.if-id-record_at.false

pub returns : goal.returns
returns c = halving-done c.args.handles.now c.args.p.0 c.args.id.0 c.args.n c.args.reads.now c.loop-low.low c.loop-low.high c.loop-low.reads c.loop-low.invariant c.loop-low-test.false
