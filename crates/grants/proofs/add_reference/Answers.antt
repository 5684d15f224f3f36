-- `grants::add_reference` meets its contract: the ID that is shown, and one reference more under it. Assumes nothing.
use Rattle.grants.specs.Code.{reference-added}
use borrow.Author.Rules.{rules}
use Rattle.grants.proofs.add_reference.Goals as goal

pub returns : goal.returns
returns c = reference-added c.args.peers.now c.args.handles.now c.args.p.0 c.args.s c.shown_id-id.ensures c.raise.ensures
