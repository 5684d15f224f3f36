-- `queues::follows` meets its contract: after each turn what is left of the queue answers as all behind the oldest entry. Assumes nothing.
use Rattle.rings.specs.Rings.{rings_of}
use Rattle.rings.specs.Lent.{viewed}
use Rattle.queues.specs.Code.{Following}
use Rattle.queues.proofs.follows.Given as goal

abbrev pub invariant-loop-i : goal.invariant-loop-i
invariant-loop-i l = Following (viewed l.rings) l.p.0 l.n l.i
