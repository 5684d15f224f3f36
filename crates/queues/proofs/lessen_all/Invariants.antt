-- `queues::lessen_all` meets its contract: after each turn the charges so far, lessened by what is left of the queue, are those of the whole. Assumes nothing.
use Rattle.rings.specs.Rings.{rings_of}
use Rattle.rings.specs.Lent.{viewed}
use Rattle.queues.specs.Code.{Lessening}
use Rattle.queues.proofs.lessen_all.Given as goal

abbrev pub invariant-loop-i : goal.invariant-loop-i
invariant-loop-i l = Lessening l.initial.rest l.m (viewed l.rings) l.p.0 l.rest l.i
