-- `tables::load` meets its contract: the four rows read are the definition's. Assumes nothing.
use Rattle.tables.specs.CodeLaws.{loaded-list}
use Rattle.std.proofs.Common.{rules}
use Rattle.tables.proofs.load.Goals as goal

pub returns : goal.returns
returns c = loaded-list _ _ _ c.from_fn.ensures.items.long (search rules) (search rules) (search rules) (search rules)
