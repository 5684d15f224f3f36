-- `grants::id_or_invalid` meets its contract: at count 0 all ones, else the ID of the handle. Assumes nothing.
use Rattle.grants.specs.Code.{id-none, id-some}
use borrow.Author.Rules.{rules}
use Rattle.grants.proofs.id_or_invalid.Goals as goal

pub returns-then-count_of-eq0 : goal.returns-then-count_of-eq0
returns-then-count_of-eq0 c = id-none c.args.handles.now c.args.p.0 c.args.s c.count_of.ensures.0 c.if-count_of-eq0.true

pub returns : goal.returns
returns c = id-some c.args.handles.now c.args.p.0 c.args.s c.count_of.ensures.0 c.if-count_of-eq0.false c.id_of.ensures
