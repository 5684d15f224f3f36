-- `queues::settle` meets its contract: the payload is at most what is used, and charges and pool are each what one callee leaves. Assumes nothing.
use Rattle.queues.specs.Code.{settle-charges, settle-pool}
use Rattle.queues.proofs.settle.Goals as goal

pub returns : goal.returns
returns c = let a = c.args in (settle-charges a.charges.now a.p.0 a.e c.load-c.ensures c.used-all.ensures.0 c.from-2.ensures c.charge_of.ensures c.discharge.ensures c.store.ensures, settle-pool a.charges.now a.pool.now a.p.0 a.e c.load-c.ensures c.used-all.ensures.0 c.from.ensures c.min-n.ensures c.close.ensures)
