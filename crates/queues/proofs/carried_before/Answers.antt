-- `queues::carried_before` meets its contract: an empty queue, one longer than its ring and one without attached handles are passed by. Assumes nothing.
use Rattle.rings.specs.Rings.{rings_of}
use Rattle.rings.specs.Lent.{viewed}
use Rattle.queues.specs.Code.{before-empty, before-long, before-none, before-some}
use Rattle.queues.proofs.carried_before.Goals as goal

pub returns-then-len-eq0 : goal.returns-then-len-eq0
returns-then-len-eq0 c = let a = c.args in before-empty a.charges.now (viewed a.rings.now) a.s a.n a.p.0 c.len-len.ensures.0 c.if-len-eq0.true

pub returns-then-len-gt-RING : goal.returns-then-len-gt-RING
returns-then-len-gt-RING c = let a = c.args in before-long a.charges.now (viewed a.rings.now) a.s a.n a.p.0 c.len-len.ensures.0 c.if-len-gt-RING.true

pub returns-then-attached-eq0 : goal.returns-then-attached-eq0
returns-then-attached-eq0 c = let a = c.args in before-none a.charges.now (viewed a.rings.now) a.s a.n a.p.0 c.len-len.ensures.0 c.if-len-gt-RING.false c.load.ensures c.attached.ensures c.if-attached-eq0.true

pub returns : goal.returns
returns c = let a = c.args in before-some a.charges.now (viewed a.rings.now) a.s a.n a.p.0 c.len-len.ensures.0 c.if-len-gt-RING.false c.load.ensures c.attached.ensures c.if-attached-eq0.false c.carried_at.ensures
