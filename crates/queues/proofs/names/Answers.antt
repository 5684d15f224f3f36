-- `queues::names` meets its contract: each return is one side of the definition's tests; a row has eight slots, so at most eight are attached. Assumes nothing.
use Rattle.queues.specs.Code.{names-notice, names-slot, names-attached}
use Rattle.queues.proofs.names.Goals as goal

pub returns-then-not-is_message_kind : goal.returns-then-not-is_message_kind
returns-then-not-is_message_kind c = let a = c.args in names-notice a.s a.entries.now a.carried.now a.row c.is_message_kind.ensures c.if-not-is_message_kind.true

pub returns-then-from-s : goal.returns-then-from-s
returns-then-from-s c = let a = c.args in names-slot a.s a.entries.now a.carried.now a.row c.is_message_kind.ensures c.if-not-is_message_kind.false c.from.ensures c.if-from-s.true

pub returns : goal.returns
returns c = let a = c.args in names-attached a.s a.entries.now a.carried.now a.row c.is_message_kind.ensures c.if-not-is_message_kind.false c.from.ensures c.if-from-s.false c.from-2.ensures c.min-n.ensures c.is_among.ensures
