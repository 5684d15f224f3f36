-- `effects::receive_notice` meets its contract: each return is one side of the definition's test. Assumes nothing.
use Rattle.effects.specs.CodeQueues.{notice-destroyed, notice-released}
use Rattle.effects.proofs.receive_notice.Goals as goal

pub returns-then-e-eq-DESTROYED : goal.returns-then-e-eq-DESTROYED
returns-then-e-eq-DESTROYED c = let a = c.args in notice-destroyed a.handles.now a.ends.now a.p.0 a.e a.out.now c.from.ensures c.id_or_invalid-id.ensures c.pop.ensures c.if-e-eq-DESTROYED.true c.write_received.ensures

pub returns : goal.returns
returns c = let a = c.args in notice-released a.handles.now a.ends.now a.p.0 a.e a.out.now c.from.ensures c.id_or_invalid-id.ensures c.pop.ensures c.if-e-eq-DESTROYED.false c.write_received-2.ensures
