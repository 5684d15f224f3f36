-- `queues::withdraw` meets its contract: a queue within its ring is swept, a longer one left. Assumes nothing.
use Rattle.rings.specs.Rings.{rings_of}
use Rattle.rings.specs.Lent.{lent}
use Rattle.queues.specs.Code.{withdraw-some, withdraw-none}
use Rattle.queues.proofs.withdraw.Goals as goal

pub returns-then-len-le-RING-clause-done : goal.returns-then-len-le-RING-clause-done
returns-then-len-le-RING-clause-done c = let a = c.args in withdraw-some (lent a.rings.now) a.p.0 c.len.ensures.0 a.m c.if-len-le-RING.true c.remove.ensures.done

pub returns-else-len-le-RING-clause-done : goal.returns-else-len-le-RING-clause-done
returns-else-len-le-RING-clause-done c = let a = c.args in withdraw-none (lent a.rings.now) a.p.0 c.len.ensures.0 a.m c.if-len-le-RING.false
