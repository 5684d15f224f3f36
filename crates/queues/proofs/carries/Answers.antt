-- `queues::carries` meets its contract: an empty queue and one without attached handles are passed by. Assumes nothing.
use Rattle.rings.specs.Rings.{rings_of}
use Rattle.rings.specs.Lent.{viewed}
use Rattle.queues.specs.Code.{carries-empty, carries-none, carries-some}
use Rattle.queues.proofs.carries.Goals as goal

pub returns-then-len-eq0 : goal.returns-then-len-eq0
returns-then-len-eq0 c = let a = c.args in carries-empty a.charges.now (viewed a.rings.now) a.s a.p.0 c.len.ensures.0 c.if-len-eq0.true

pub returns-then-attached-eq0 : goal.returns-then-attached-eq0
returns-then-attached-eq0 c = let a = c.args in carries-none a.charges.now (viewed a.rings.now) a.s a.p.0 c.load.ensures c.attached.ensures c.if-attached-eq0.true

pub returns : goal.returns
returns c = let a = c.args in carries-some a.charges.now (viewed a.rings.now) a.s a.p.0 c.load.ensures c.attached.ensures c.if-attached-eq0.false c.named_at.ensures
