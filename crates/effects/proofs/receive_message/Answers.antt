-- `effects::receive_message` meets its contract: each table is what its last callee leaves; the answer is written before the payload is taken out. Assumes nothing.
use Rattle.queues.specs.Queues.{queues_of}
use Rattle.queues.specs.Queued.{queued}
use Rattle.effects.specs.CodeQueues.{take-message}
use Rattle.effects.proofs.receive_message.Goals as goal

pub returns-clause-done : goal.returns-clause-done
returns-clause-done c = let a = c.args in take-message a.peers.now a.nodes.now a.handles.now (queued a.charges.now a.rings.now a.pool.now) a.p.0 a.e a.out.now (rw c.view.ensures.rings at c.follows-flag.ensures) c.from.ensures c.id_or_invalid-to.ensures c.pop.ensures c.from-2.ensures c.min-nh.ensures c.give_all-ids.ensures.done c.write_message-o.ensures c.settle.ensures c.expire_shown.ensures.done
