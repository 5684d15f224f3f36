-- `notices::concerns` meets its contract: each return is one side of the definition's test. Assumes nothing.
use Rattle.rings.specs.Rings.{rings_of}
use Rattle.rings.specs.Lent.{viewed}
use Rattle.notices.specs.Code.{concerns-holder, concerns-carrier}
use Rattle.notices.proofs.concerns.Goals as goal

pub returns-then-count_of-ne0 : goal.returns-then-count_of-ne0
returns-then-count_of-ne0 c = let a = c.args in concerns-holder a.handles.now a.charges.now (viewed a.rings.now) a.s a.n a.o.0 c.count_of.ensures.0 c.if-count_of-ne0.true

pub returns : goal.returns
returns c = let a = c.args in concerns-carrier a.handles.now a.charges.now (viewed a.rings.now) a.s a.n a.o.0 c.count_of.ensures.0 c.if-count_of-ne0.false c.carried_before.ensures
