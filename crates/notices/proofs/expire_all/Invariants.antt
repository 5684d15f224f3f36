-- `notices::expire_all` meets its contract: by the loop's invariant what is left to do gives what the whole gives. Assumes nothing.
use Rattle.rings.specs.Rings.{rings_of}
use Rattle.rings.specs.Lent.{lent, SameTables}
use Rattle.notices.specs.Code.{Passing}
use Rattle.notices.proofs.expire_all.Given as goal

abbrev pub invariant-loop-i : goal.invariant-loop-i
invariant-loop-i l = record { same : SameTables l.initial.rings l.rings; done : Passing l.nodes l.handles l.charges l.p.0 (lent l.initial.rings) (lent l.rings) l.i }
