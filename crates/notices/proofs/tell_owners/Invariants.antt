-- `notices::tell_owners` meets its contract: the loop's invariant is the rings after the owners passed are told. Assumes nothing.
use Rattle.rings.specs.Rings.{rings_of}
use Rattle.rings.specs.Lent.{lent, SameTables}
use Rattle.notices.specs.Code.{Owning}
use Rattle.notices.proofs.tell_owners.Given as goal

abbrev pub invariant-loop-q : goal.invariant-loop-q
invariant-loop-q l = record { same : SameTables l.initial.rings l.rings; done : Owning l.nodes l.handles l.p.0 l.n (lent l.initial.rings) (lent l.rings) l.q }
