-- `queues::is_among` meets its contract: after each turn what is left of the first n slots answers as all of them. Assumes nothing.
use Rattle.queues.specs.Code.{among-start, among-end, among-found, among_next}
use native.Mathlib.Omega.{arith}
use Rattle.queues.proofs.is_among.Goals as goal

pub loop-k-init : goal.loop-k-init
loop-k-init c = among-start _ _ _ _

pub returns-then-from-s : goal.returns-then-from-s
returns-then-from-s c = among-found c.loop-k.invariant (omega arith) (omega arith) c.from.ensures c.if-from-s.true

pub loop-k-preserved : goal.loop-k-preserved
loop-k-preserved c = among_next c.loop-k.invariant (omega arith) (omega arith) c.from.ensures c.if-from-s.false

pub returns : goal.returns
returns c = among-end c.loop-k.invariant (omega arith) (omega arith)
