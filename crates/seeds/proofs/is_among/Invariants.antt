-- `seeds::is_among` meets its contract: the loop's invariant is that no slot passed is the one looked for. Assumes nothing.
use Rattle.seeds.specs.Code.{Before}
use Rattle.seeds.proofs.is_among.Given as goal

abbrev pub invariant-loop-k : goal.invariant-loop-k
invariant-loop-k l = Before l.seeds l.a l.s l.k
