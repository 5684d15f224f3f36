-- `queues::is_among` meets its contract: after each turn what is left of the first n slots answers as all of them. Assumes nothing.
use Rattle.queues.specs.Code.{Among}
use Rattle.queues.proofs.is_among.Given as goal

abbrev pub invariant-loop-k : goal.invariant-loop-k
invariant-loop-k l = Among l.carried l.row l.n l.s l.k
