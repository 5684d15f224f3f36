-- `tables::holders` meets its contract: the loop's invariant is the set of the peers passed, which is below the next bit. Assumes nothing.
use Rattle.tables.specs.CodeLaws.{holder-bits-none, holder-bits-skip, holder-bits-more, holder-bits-all}
use native.Mathlib.Omega.{arith}
use Rattle.tables.proofs.holders.Goals as goal
use Rattle.tables.proofs.holders.Goals.{then-count_of-ne0, else-count_of-ne0}

pub loop-q-init : goal.loop-q-init
loop-q-init c = holder-bits-none _ _

pub loop-q-preserved : goal.loop-q-preserved
loop-q-preserved c =
    elim c.if-count_of-ne0.branch [
      | then-count_of-ne0 w ↦ rw w.set-is (holder-bits-more c.args.handles.now c.args.s c.loop-q.q c.loop-q.set c.loop-q.invariant c.count_of.ensures.0 c.loop-q-test.true w.if-count_of-ne0.true)
      | else-count_of-ne0 w ↦ rw w.set-is (holder-bits-skip c.args.handles.now c.args.s c.loop-q.q c.loop-q.set c.loop-q.invariant c.count_of.ensures.0 w.if-count_of-ne0.false)
    ]

pub returns : goal.returns
returns c = holder-bits-all _ _ c.loop-q.q c.loop-q.invariant (omega (arith, c.loop-q.auto.q-end, c.loop-q-test.false))
