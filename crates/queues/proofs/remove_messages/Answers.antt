-- `queues::remove_messages` meets its contract: where no message matches, what the definition makes of the charges and of the pool is what stands there; else each is what one callee leaves. Assumes nothing.
use Rattle.rings.specs.Rings.{rings_of, queue_of}
use Rattle.rings.specs.Lent.{viewed}
use Rattle.queues.specs.Code.{messages-done}
use Rattle.queues.specs.Sparing.{messages-no-kind, messages-none}
use Rattle.queues.proofs.remove_messages.Goals as goal

pub returns-then-m-eq0 : goal.returns-then-m-eq0
returns-then-m-eq0 c = let a = c.args in messages-no-kind (viewed a.rings.now) a.charges.now a.pool.now a.p.0 a.m c.if-m-eq0.true

pub returns-then-first_match-len : goal.returns-then-first_match-len
returns-then-first_match-len c = let a = c.args in messages-none a.rings.now.ends.now a.rings.now.entries.now a.rings.now.carried.now a.rings.now.numbers.now a.charges.now a.pool.now a.p.0 a.m c.head-head.ensures.0 c.len-len.ensures.0 c.first_match.ensures c.if-first_match-len.true

pub returns : goal.returns
returns c = let a = c.args in messages-done a.charges.now a.pool.now a.p.0 a.m (queue_of (viewed a.rings.now) a.p.0) c.load-c.ensures c.lessen_all-d.ensures c.store.ensures c.remove.ensures
