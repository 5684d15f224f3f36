-- `queues::any_row` meets its contract: after each turn what is left of the queue answers as the whole. Assumes nothing.
use Rattle.queues.specs.Code.{Walking}
use Rattle.queues.proofs.any_row.Given as goal

abbrev pub invariant-loop-i : goal.invariant-loop-i
invariant-loop-i g l = Walking l.ends l.p.0 (λ row b. goal.F-post g l.test row b) l.i
