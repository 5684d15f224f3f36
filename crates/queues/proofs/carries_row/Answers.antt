-- `queues::carries_row` meets its contract: each return is one side of the definition's tests; a row has eight slots, so at most eight are attached. Assumes nothing.
use mathlib.Core.Path.{refl}
use Rattle.queues.specs.Code.{brings-notice, brings-later, brings-attached}
use Rattle.queues.proofs.carries_row.Goals as goal

pub returns-then-not-is_message_kind : goal.returns-then-not-is_message_kind
returns-then-not-is_message_kind c = let a = c.args in brings-notice a.s a.n a.entries.now a.carried.now a.numbers.now a.row c.is_message_kind.ensures c.if-not-is_message_kind.true

pub returns-then-n-numbers : goal.returns-then-n-numbers
returns-then-n-numbers c = let a = c.args in brings-later a.s a.n a.entries.now a.carried.now a.numbers.now a.row c.is_message_kind.ensures c.if-not-is_message_kind.false refl c.if-n-numbers.true

pub returns : goal.returns
returns c = let a = c.args in brings-attached a.s a.n a.entries.now a.carried.now a.numbers.now a.row c.is_message_kind.ensures c.if-not-is_message_kind.false refl c.if-n-numbers.false c.from.ensures c.min-nh.ensures c.is_among.ensures
