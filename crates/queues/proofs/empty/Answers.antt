-- `queues::empty` meets its contract: the charges stored are the fresh ones, and the queue is cleared. Assumes nothing.
use Rattle.queues.specs.Code.{empty-charges}
use Rattle.queues.proofs.empty.Goals as goal

pub returns : goal.returns
returns c = let a = c.args in (empty-charges a.charges.now a.p.0 c.fresh.ensures c.store.ensures, c.clear.ensures)
