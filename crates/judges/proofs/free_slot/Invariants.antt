-- `judges::free_slot` meets its contract: the loop's invariant is that every slot passed counts, so the first that does not is the one found. Assumes nothing.
use Rattle.judges.specs.CodeCreates.{Taken}
use Rattle.rings.specs.Lent.{viewed}
use Rattle.rings.specs.Rings.{rings_of}
use Rattle.judges.proofs.free_slot.Given as goal

abbrev pub invariant-loop-k : goal.invariant-loop-k
invariant-loop-k l = Taken l.nodes l.handles l.charges (viewed l.rings) l.seeds l.p.0 l.k
