-- `notices::is_above` meets its contract: each return is one side of the definition's tests. Assumes nothing.
use Rattle.notices.specs.Code.{above-out, above_in}
use Rattle.notices.proofs.is_above.Goals as goal

pub returns-then-not-bit : goal.returns-then-not-bit
returns-then-not-bit c = above-out _ _ _ _ _ c.from.ensures c.bit.ensures c.if-not-bit.true

pub returns : goal.returns
returns c = above_in _ _ _ _ _ c.from.ensures c.bit.ensures c.if-not-bit.false c.id_of-low.ensures c.id_of-id.ensures
