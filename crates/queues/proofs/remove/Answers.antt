-- `queues::remove` meets its contract: a queue longer than its ring is left; else charges, pool and queue are each what a callee leaves, and the messages are read from the queue before it is swept. Assumes nothing.
use Rattle.queues.specs.Queues.{queues_of}
use Rattle.queues.specs.Queued.{queued}
use Rattle.queues.specs.Code.{remove-long, remove-done}
use Rattle.queues.proofs.remove.Goals as goal

pub returns-then-len-gt-RING-clause-done : goal.returns-then-len-gt-RING-clause-done
returns-then-len-gt-RING-clause-done c = let a = c.args in remove-long (queued a.charges.now a.rings.now a.pool.now) a.p.0 a.m c.len.ensures.0 c.if-len-gt-RING.true

pub returns-clause-done : goal.returns-clause-done
returns-clause-done c = let a = c.args in remove-done (queued a.charges.now a.rings.now a.pool.now) a.p.0 a.m c.len.ensures.0 c.if-len-gt-RING.false (rw c.view.ensures.rings at c.remove_messages.ensures) c.remove.ensures.done
