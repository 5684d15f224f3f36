-- `journal::append_line` meets its contract: one law for each return. Assumes nothing.
use Rattle.journal.specs.Code.{append-none, append-written}
use Rattle.journal.proofs.append_line.Goals as goal

pub returns-then-not-is_change : goal.returns-then-not-is_change
returns-then-not-is_change c = append-none _ _ _ _ c.is_change.ensures c.if-not-is_change.true

pub returns : goal.returns
returns c = append-written _ _ _ _ c.is_change.ensures c.if-not-is_change.false c.write_line.ensures
