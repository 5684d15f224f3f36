-- `notices::addressees_at` meets its contract: a place that is not in the set has nobody. Assumes nothing.
use Rattle.rings.specs.Rings.{rings_of}
use Rattle.rings.specs.Lent.{viewed}
use Rattle.notices.specs.Code.{place_out, place_in}
use Rattle.notices.proofs.addressees_at.Goals as goal

pub returns-then-not-bit : goal.returns-then-not-bit
returns-then-not-bit c = let a = c.args in place_out a.handles.now a.charges.now (viewed a.rings.now) a.p.0 a.set a.n a.k c.from.ensures c.bit.ensures c.if-not-bit.true

pub returns : goal.returns
returns c = let a = c.args in place_in a.handles.now a.charges.now (viewed a.rings.now) a.p.0 a.set a.n a.k c.from.ensures c.bit.ensures c.if-not-bit.false c.addressees.ensures
