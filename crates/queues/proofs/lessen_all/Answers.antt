-- `queues::lessen_all` meets its contract: after each turn the charges so far, lessened by what is left of the queue, are those of the whole. Assumes nothing.
use Rattle.queues.specs.Code.{lessening-start, lessening-next, lessening-done}
use Rattle.queues.proofs.lessen_all.Goals as goal

pub loop-i-init : goal.loop-i-init
loop-i-init c = lessening-start _ _ _ _

pub loop-i-preserved : goal.loop-i-preserved
loop-i-preserved c = lessening-next c.loop-i.invariant c.len-i-end.ensures.0 c.loop-i-test.true c.head-head.ensures.0 c.row_of-row.ensures.0 c.entry-e.ensures c.lessen-rest.ensures

pub returns : goal.returns
returns c = lessening-done c.loop-i.invariant c.len-i-end.ensures.0 c.loop-i-test.false
