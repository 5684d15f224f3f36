-- `effects::transfer` meets its contract: the counted table is the one in which the handle is given. Assumes nothing.
use Rattle.rings.specs.Rings.{rings_of}
use Rattle.rings.specs.Lent.{lent}
use Rattle.effects.specs.CodeChanges.{transfer-done}
use Rattle.effects.proofs.transfer.Goals as goal

pub returns-clause-done : goal.returns-clause-done
returns-clause-done c = let a = c.args in transfer-done a.peers.now a.nodes.now a.handles.now (lent a.rings.now) a.q.0 a.s c.next_number-n.ensures c.give.ensures.done
