-- `grants::next_id` meets its contract: the count of given IDs plus one is stored, and the ID is made of it. Assumes nothing.
use Rattle.grants.specs.Code.{next-done}
use borrow.Author.Rules.{rules}
use Rattle.grants.proofs.next_id.Goals as goal

pub returns : goal.returns
returns c = next-done c.args.peers.now c.args.p.0 c.given_of-n.ensures.0 c.set_given.ensures
