-- `notices::expire` meets its contract: each return is one side of the definition's tests. Assumes nothing.
use Rattle.rings.specs.Rings.{rings_of}
use Rattle.rings.specs.Lent.{lent}
use Rattle.notices.specs.Code.{expire-live, expire-kept, expire-gone}
use Rattle.notices.proofs.expire.Goals as goal

pub returns-then-is_live-clause-done : goal.returns-then-is_live-clause-done
returns-then-is_live-clause-done c = let a = c.args in expire-live a.nodes.now a.handles.now a.charges.now a.p.0 (lent a.rings.now) a.s c.is_live.ensures c.if-is_live.true

pub returns-then-concerns-clause-done : goal.returns-then-concerns-clause-done
returns-then-concerns-clause-done c = let a = c.args in expire-kept a.nodes.now a.handles.now a.charges.now a.p.0 (lent a.rings.now) a.s c.is_live.ensures c.if-is_live.false c.died_at-n.ensures (rw c.view.ensures.rings at c.concerns.ensures) c.if-concerns.true

pub returns-clause-done : goal.returns-clause-done
returns-clause-done c = let a = c.args in expire-gone a.nodes.now a.handles.now a.charges.now a.p.0 (lent a.rings.now) a.s c.is_live.ensures c.if-is_live.false c.died_at-n.ensures (rw c.view.ensures.rings at c.concerns.ensures) c.if-concerns.false c.one_slot-m.ensures c.withdraw.ensures.done
