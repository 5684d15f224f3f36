-- `effects::open_peer` meets its contract: the definition's two changes, in order. Assumes nothing.
use Rattle.effects.specs.CodeChanges.{open_done}
use Rattle.effects.proofs.open_peer.Goals as goal

pub returns : goal.returns
returns c = open_done c.args.peers.now c.count_command.ensures c.args.p.0 c.args.u.0 c.set_open.ensures
