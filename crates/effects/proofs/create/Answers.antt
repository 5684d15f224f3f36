-- `effects::create` meets its contract: each of the three tables is what one callee leaves. Assumes nothing.
use Rattle.effects.specs.CodeChanges.{create-done}
use Rattle.effects.proofs.create.Goals as goal

pub returns : goal.returns
returns c = let a = c.args in create-done a.peers.now c.count_command.ensures a.nodes.now a.handles.now a.p.0 a.i.0 a.s c.set_live.ensures c.put_handle.ensures
