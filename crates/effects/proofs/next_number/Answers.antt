-- `effects::next_number` meets its contract: the number is read from the counted table. Assumes nothing.
use Rattle.effects.specs.CodeChanges.{number-done}
use Rattle.effects.proofs.next_number.Goals as goal

pub returns : goal.returns
returns c = number-done c.args.peers.now c.count_command.ensures c.accepted.ensures.0
