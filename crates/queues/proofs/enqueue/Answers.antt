-- `queues::enqueue` meets its contract: charges, queue and pool are each what one callee leaves. Assumes nothing.
use Rattle.rings.specs.Rings.{rings_of}
use Rattle.rings.specs.Lent.{lent}
use Rattle.queues.specs.Code.{enqueue-done}
use Rattle.queues.proofs.enqueue.Goals as goal

pub store-requires : goal.store-requires
store-requires c = (c.requires.0, c.requires.1)

pub returns-clause-done : goal.returns-clause-done
returns-clause-done c = let a = c.args in enqueue-done a.charges.now a.p.0 a.e c.load-c.ensures c.used.ensures.0 c.from.ensures c.charge_of.ensures (lent a.rings.now) a.pool.now a.payload.now c.append.ensures c.enter.ensures.done c.charge.ensures c.store.ensures
