-- `notices::tell` meets its contract: after each turn what is left to do gives what the whole gives. Assumes nothing.
use Rattle.rings.specs.Rings.{rings_of}
use Rattle.rings.specs.Lent.{lent, SameTables}
use Rattle.notices.specs.Code.{Telling}
use Rattle.notices.proofs.tell.Given as goal

abbrev pub invariant-loop : goal.invariant-loop
invariant-loop l = record { same : SameTables l.initial.rings l.rings; done : Telling l.handles l.to l.q.0 l.kind l.n (lent l.initial.rings) l.set (lent l.rings) l.rest l.counter }
