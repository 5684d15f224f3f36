-- `notices::lower` meets its contract: each return is one clause of the definition, or one side of its test. Assumes nothing.
use Rattle.notices.specs.Code.{lower-first, lower-new, lower-old}
use Rattle.notices.proofs.lower.Goals as goal

pub returns-in_default : goal.returns-in_default
returns-in_default c = lower-first _ _ _ _ c.in_default.is

pub returns-then-id-least : goal.returns-then-id-least
returns-then-id-least c = lower-new _ _ _ _ c.in-Some.is c.id_of-least.ensures c.id_of-id.ensures c.if-id-least.true

pub returns : goal.returns
returns c = lower-old _ _ _ _ c.in-Some.is c.id_of-least.ensures c.id_of-id.ensures c.if-id-least.false
