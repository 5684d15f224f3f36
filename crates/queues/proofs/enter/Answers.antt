-- `queues::enter` meets its contract: to a queue with room the entry is pushed, to a full one nothing is done. Assumes nothing.
use Rattle.rings.specs.Rings.{rings_of}
use Rattle.rings.specs.Lent.{lent}
use Rattle.queues.specs.Code.{enter-room, enter-full}
use Rattle.queues.proofs.enter.Goals as goal

pub returns-then-len-lt-RING-clause-done : goal.returns-then-len-lt-RING-clause-done
returns-then-len-lt-RING-clause-done c = let a = c.args in enter-room (lent a.rings.now) a.p.0 c.len.ensures.0 a.e c.if-len-lt-RING.true c.push.ensures.done

pub returns-else-len-lt-RING-clause-done : goal.returns-else-len-lt-RING-clause-done
returns-else-len-lt-RING-clause-done c = let a = c.args in enter-full (lent a.rings.now) a.p.0 c.len.ensures.0 a.e c.if-len-lt-RING.false
