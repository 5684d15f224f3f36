-- `pool::remove` meets its contract: after each turn what is left to do gives what the whole gives. Assumes nothing.
use Rattle.rings.specs.Rings.{rings_of, queue_of}
use Rattle.rings.specs.Lent.{viewed}
use Rattle.pool.specs.Removal.{Moving}
use Rattle.pool.proofs.remove.Given as goal

abbrev pub invariant-loop-i : goal.invariant-loop-i
invariant-loop-i l = Moving l.initial.pool l.p.0 l.m (queue_of (viewed l.rings) l.p.0) l.pool l.read l.stays l.i
