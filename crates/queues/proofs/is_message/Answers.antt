-- `queues::is_message` meets its contract: the entry's kind decides. Assumes nothing.
use Rattle.queues.specs.Code.{message-entry}
use Rattle.queues.proofs.is_message.Goals as goal

pub returns : goal.returns
returns c = message-entry _ c.is_message_kind.ensures
