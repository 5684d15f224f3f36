-- `tables::holders` meets its contract: the loop's invariant is the set of the peers passed, which is below the next bit. Assumes nothing.
use Rattle.tables.specs.CodeLaws.{HolderBits}
use Rattle.tables.proofs.holders.Given as goal

abbrev pub invariant-loop-q : goal.invariant-loop-q
invariant-loop-q l = HolderBits l.handles l.s l.q l.set
