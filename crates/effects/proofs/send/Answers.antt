-- `effects::send` meets its contract: the number, the user and the queues are each what one callee leaves. Assumes nothing.
use Rattle.queues.specs.Queues.{queues_of}
use Rattle.queues.specs.Queued.{queued}
use Rattle.effects.specs.CodeQueues.{send-done}
use Rattle.effects.proofs.send.Goals as goal

pub returns-clause-done : goal.returns-clause-done
returns-clause-done c = let a = c.args in send-done a.peers.now (queued a.charges.now a.rings.now a.pool.now) a.p.0 a.z a.w a.payload.now c.next_number-n.ensures c.user_of-u.ensures c.deliver.ensures.done
