-- `effects::notify` meets its contract: nothing changes where the node is dead or the sum of counts is not 1; else the notice is entered at the owner. Assumes nothing.
use Rattle.rings.specs.Rings.{rings_of}
use Rattle.rings.specs.Lent.{lent}
use Rattle.effects.specs.CodeChanges.{notify-dead, notify-one, notify-more}
use Rattle.effects.proofs.notify.Goals as goal

pub returns-then-not-is_live-clause-done : goal.returns-then-not-is_live-clause-done
returns-then-not-is_live-clause-done c = let a = c.args in notify-dead a.nodes.now a.handles.now (lent a.rings.now) a.s a.n c.is_live.ensures c.if-not-is_live.true

pub returns-then-total-eq1-clause-done : goal.returns-then-total-eq1-clause-done
returns-then-total-eq1-clause-done c = let a = c.args in notify-one a.nodes.now a.handles.now (lent a.rings.now) a.s a.n c.is_live.ensures c.if-not-is_live.false c.total.ensures c.if-total-eq1.true c.notice-e.ensures c.enter.ensures.done

pub returns-else-total-eq1-clause-done : goal.returns-else-total-eq1-clause-done
returns-else-total-eq1-clause-done c = let a = c.args in notify-more a.nodes.now a.handles.now (lent a.rings.now) a.s a.n c.is_live.ensures c.if-not-is_live.false c.total.ensures c.if-total-eq1.false
