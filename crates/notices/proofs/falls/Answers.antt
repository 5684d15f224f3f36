-- `notices::falls` meets its contract: each return is one side of the definition's tests. Assumes nothing.
use Rattle.notices.specs.Code.{falls-dead, falls-none, falls-some}
use Rattle.notices.proofs.falls.Goals as goal

pub returns-then-not-is_live : goal.returns-then-not-is_live
returns-then-not-is_live c = falls-dead _ _ _ _ c.is_live.ensures c.if-not-is_live.true

pub returns-then-c-eq0 : goal.returns-then-c-eq0
returns-then-c-eq0 c = falls-none _ _ _ _ c.is_live.ensures c.if-not-is_live.false c.count_of-c.ensures.0 c.if-c-eq0.true

pub returns : goal.returns
returns c = falls-some _ _ _ _ c.is_live.ensures c.if-not-is_live.false c.count_of-c.ensures.0 c.if-c-eq0.false c.total.ensures
