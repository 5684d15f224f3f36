-- `effects::receive` meets its contract: each return is one side of the definition's test. Assumes nothing.
use Rattle.queues.specs.Queues.{queues_of}
use Rattle.queues.specs.Queued.{queued}
use Rattle.effects.specs.CodeQueues.{receive-notice, receive-message}
use Rattle.effects.proofs.receive.Goals as goal

pub returns-then-not-is_message-clause-done : goal.returns-then-not-is_message-clause-done
returns-then-not-is_message-clause-done c = let a = c.args in receive-notice a.peers.now a.nodes.now a.handles.now (queued a.charges.now a.rings.now a.pool.now) a.p.0 a.out.now c.count_command.ensures c.first-e.ensures c.is_message.ensures c.if-not-is_message.true c.receive_notice.ensures

pub returns-clause-done : goal.returns-clause-done
returns-clause-done c = let a = c.args in receive-message a.peers.now a.nodes.now a.handles.now (queued a.charges.now a.rings.now a.pool.now) a.p.0 a.out.now c.count_command.ensures c.first-e.ensures c.is_message.ensures c.if-not-is_message.false c.receive_message.ensures.done
