-- `queues::lessen` meets its contract: each return is one side of the definition's tests. Assumes nothing.
use Rattle.queues.specs.Code.{lessen-notice, lessen-kept, lessen-out}
use Rattle.queues.proofs.lessen.Goals as goal

pub returns-then-not-is_message : goal.returns-then-not-is_message
returns-then-not-is_message c = lessen-notice _ _ _ c.is_message.ensures c.if-not-is_message.true

pub returns-then-not-is_match : goal.returns-then-not-is_match
returns-then-not-is_match c = lessen-kept _ _ _ c.is_message.ensures c.if-not-is_message.false c.is_match.ensures c.if-not-is_match.true

pub returns : goal.returns
returns c = lessen-out _ _ _ c.is_message.ensures c.if-not-is_message.false c.is_match.ensures c.if-not-is_match.false c.from.ensures c.charge_of.ensures c.discharge.ensures
