-- `queues::attached` meets its contract: the sum of the four users' handles. Assumes nothing.
use borrow.Author.Rules.{rules}
use Rattle.laws.specs.Sums.{sum_to}
use Rattle.queues.specs.Queues.{attached_of}
use Rattle.queues.proofs.attached.Goals as goal

pub returns : goal.returns
unfolding attached_of sum_to
returns c = c.total.ensures (λ x. x.handles) (λ x n e. search rules)
