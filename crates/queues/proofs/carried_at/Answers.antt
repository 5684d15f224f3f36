-- `queues::carried_at` meets its contract: the test of a row is the definition's. Assumes nothing.
use borrow.Author.Rules.{rules}
use Rattle.queues.specs.Queues.{brings_in}
use Rattle.queues.proofs.carried_at.Goals as goal

pub returns : goal.returns
returns c = c.any_row.ensures c.args.entries.now c.args.carried.now c.args.numbers.now (brings_in c.args.n c.args.s) (λ row l b e. search rules)
