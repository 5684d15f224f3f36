-- `notices::set_where` meets its contract: the loop's invariant is that the places passed have their bits, and that these are below the next bit. Assumes nothing.
use Rattle.notices.specs.Code.{Setting}
use Rattle.notices.proofs.set_where.Given as goal

abbrev pub invariant-loop-k : goal.invariant-loop-k
invariant-loop-k g l = Setting (λ k b. goal.F-post g l.test k b) l.k l.set
