-- `effects::disconnect` meets its contract: each table is what its last callee leaves, and the lengths stay in between. Assumes nothing.
use Rattle.rings.specs.Rings.{rings_of}
use Rattle.rings.specs.Lent.{lent}
use Rattle.effects.specs.CodeQueues.{disconnect-done}
use Rattle.effects.proofs.disconnect.Goals as goal

pub returns-clause-done : goal.returns-clause-done
returns-clause-done c = let a = c.args in disconnect-done a.peers.now a.nodes.now a.handles.now a.charges.now (lent a.rings.now) a.p.0 c.next_number-n.ensures c.set_of-set.ensures c.destroy_set.ensures.done c.empty.ensures.0 c.empty.ensures.1 c.tell_owners.ensures.done c.clear_peer.ensures c.set_disconnected.ensures
