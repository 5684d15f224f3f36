-- `notices::set_of` meets its contract: the test of a place is the definition's. Assumes nothing.
use borrow.Author.Rules.{rules}
use Rattle.notices.specs.Notices.{asks, set_of}
use Rattle.notices.proofs.set_of.Goals as goal

pub returns : goal.returns
unfolding set_of
returns c = c.set_where.ensures (asks c.args.nodes.now c.args.handles.now c.args.q.0 c.args.a) (λ k l b e. search rules)
