-- `queues::any_row` meets its contract: after each turn what is left of the queue answers as the whole. Assumes nothing.
use Rattle.queues.specs.Code.{walking-start, walking-end, walking-found, walking-next}
use Rattle.queues.proofs.any_row.Goals as goal

pub loop-i-init : goal.loop-i-init
loop-i-init g c = walking-start

pub returns-then-test : goal.returns-then-test
returns-then-test g c = walking-found c.loop-i.invariant c.len_of-i-end.ensures.0 c.loop-i-test.true c.head_of-head.ensures.0 c.row_of.ensures.0 c.row_of.ensures.1 c.test.ensures c.if-test.true

pub loop-i-preserved : goal.loop-i-preserved
loop-i-preserved g c = walking-next c.loop-i.invariant c.len_of-i-end.ensures.0 c.loop-i-test.true c.head_of-head.ensures.0 c.row_of.ensures.0 c.row_of.ensures.1 c.test.ensures c.if-test.false

pub returns : goal.returns
returns g c = walking-end c.loop-i.invariant c.len_of-i-end.ensures.0 c.loop-i-test.false
