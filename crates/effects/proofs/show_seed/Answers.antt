-- `effects::show_seed` meets its contract: the counted table is the one in which the seed's slots are given. Assumes nothing.
use Rattle.rings.specs.Rings.{rings_of}
use Rattle.rings.specs.Lent.{lent}
use Rattle.effects.specs.CodeQueues.{show-done}
use Rattle.effects.proofs.show_seed.Goals as goal

pub returns-clause-done : goal.returns-clause-done
returns-clause-done c = let a = c.args in show-done a.peers.now a.nodes.now a.handles.now (lent a.rings.now) a.seeds.now a.p.0 a.out.now c.next_number-n.ensures c.user_of-user.ensures c.slots_of-slots.ensures c.nh_of-nh.ensures.0 c.give_all-ids.ensures.done c.write_seed.ensures
