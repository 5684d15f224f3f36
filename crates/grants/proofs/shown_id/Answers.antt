-- `grants::shown_id` meets its contract: at count 0 a new ID, else the ID of the handle. Assumes nothing.
use Rattle.grants.specs.Code.{shown-new, shown-old}
use borrow.Author.Rules.{rules}
use Rattle.grants.proofs.shown_id.Goals as goal

pub returns-then-count_of-eq0 : goal.returns-then-count_of-eq0
returns-then-count_of-eq0 c = shown-new c.args.handles.now c.args.p.0 c.args.s c.count_of.ensures.0 c.args.peers.now c.if-count_of-eq0.true c.next_id.ensures

pub returns : goal.returns
returns c = shown-old c.args.handles.now c.args.p.0 c.args.s c.count_of.ensures.0 c.args.peers.now c.if-count_of-eq0.false c.id_of.ensures
