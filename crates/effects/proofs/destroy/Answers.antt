-- `effects::destroy` meets its contract: the number and the destroyed node give the definition's parts. Assumes nothing.
use Rattle.rings.specs.Rings.{rings_of}
use Rattle.rings.specs.Lent.{lent}
use Rattle.effects.specs.CodeChanges.{destroy-done}
use Rattle.effects.proofs.destroy.Goals as goal

pub returns-clause-done : goal.returns-clause-done
returns-clause-done c = let a = c.args in destroy-done a.peers.now a.nodes.now a.handles.now a.charges.now (lent a.rings.now) a.p.0 a.s c.next_number-n.ensures c.destroy_one.ensures.done
