-- `notices::addressees_of` meets its contract: the loop's invariant is that the places passed are stored. Assumes nothing.
use Rattle.rings.specs.Rings.{rings_of}
use Rattle.rings.specs.Lent.{viewed}
use Rattle.notices.specs.Code.{Placing}
use Rattle.notices.proofs.addressees_of.Given as goal

abbrev pub invariant-loop-k : goal.invariant-loop-k
invariant-loop-k l = Placing l.handles l.charges (viewed l.rings) l.p.0 l.set l.n l.to l.k
