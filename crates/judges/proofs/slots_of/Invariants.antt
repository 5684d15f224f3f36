-- `judges::slots_of` meets its contract: the loop's invariant is that every ID passed is held and its slot stored at its place. Assumes nothing.
use Rattle.judges.specs.CodeSends.{Looked}
use Rattle.judges.proofs.slots_of.Given as goal

abbrev pub invariant-loop-k : goal.invariant-loop-k
invariant-loop-k l = Looked l.handles l.frame l.p.0 l.from l.n l.at l.k
