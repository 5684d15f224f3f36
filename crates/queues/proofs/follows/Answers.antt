-- `queues::follows` meets its contract: after each turn what is left of the queue answers as all behind the oldest entry. Assumes nothing.
use Rattle.queues.specs.Code.{following-start, following-end, following-other, following-found, following-next}
use Rattle.queues.proofs.follows.Goals as goal

pub loop-i-init : goal.loop-i-init
loop-i-init c = following-start _ _ _

pub returns-then-e-n : goal.returns-then-e-n
returns-then-e-n c = following-other c.loop-i.invariant c.len-i-end.ensures.0 c.loop-i-test.true c.head-head.ensures.0 c.row_of-row.ensures.0 c.entry-e.ensures c.if-e-n.true

pub returns-then-is_message : goal.returns-then-is_message
returns-then-is_message c = following-found c.loop-i.invariant c.len-i-end.ensures.0 c.loop-i-test.true c.head-head.ensures.0 c.row_of-row.ensures.0 c.entry-e.ensures c.if-e-n.false c.is_message.ensures c.if-is_message.true

pub loop-i-preserved : goal.loop-i-preserved
loop-i-preserved c = following-next c.loop-i.invariant c.len-i-end.ensures.0 c.loop-i-test.true c.head-head.ensures.0 c.row_of-row.ensures.0 c.entry-e.ensures c.if-e-n.false c.is_message.ensures c.if-is_message.false

pub returns : goal.returns
returns c = following-end c.loop-i.invariant c.len-i-end.ensures.0 c.loop-i-test.false
