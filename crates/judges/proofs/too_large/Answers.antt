-- `judges::too_large` meets its contract: a notice needs no room, a message its bytes and eight for each handle. Assumes nothing.
use Rattle.judges.specs.CodeOrders.{large-notice, large-message}
use Rattle.std.proofs.Common.{◌∙◌}
use Rattle.judges.proofs.too_large.Goals as goal

pub returns-then-is_message : goal.returns-then-is_message
returns-then-is_message c = large-message c.args.e c.args.room c.is_message.ensures c.if-is_message.true c.from.ensures c.from-then-is_message.ensures c.min.ensures

pub returns-else-is_message : goal.returns-else-is_message
returns-else-is_message c = c.if-is_message.false ∙ large-notice c.args.e c.args.room c.is_message.ensures c.if-is_message.false
