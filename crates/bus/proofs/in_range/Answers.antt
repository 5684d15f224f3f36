-- `bus::in_range` meets its contract: the invariant is the definition's value so far. Assumes nothing.
use Rattle.bus.specs.Code.{none_yet, one_more, bad-peer, good-peers}
use Rattle.bus.proofs.in_range.Goals as goal

pub loop-p-init : goal.loop-p-init
loop-p-init c = none_yet _ _

pub returns-then-not-peer_in_range : goal.returns-then-not-peer_in_range
returns-then-not-peer_in_range c = bad-peer _ _ _ c.loop-p-test.true c.peer_in_range.ensures c.if-not-peer_in_range.true

pub loop-p-preserved : goal.loop-p-preserved
loop-p-preserved c = one_more _ _ _ c.loop-p.invariant c.peer_in_range.ensures c.if-not-peer_in_range.false

pub returns : goal.returns
returns c = good-peers _ _ _ c.loop-p-test.false c.loop-p.auto.p-end c.loop-p.invariant
