-- `notices::destroy_one` meets its contract: what is withdrawn, buried and posted is what the set of one bit gives. Assumes nothing.
use Rattle.rings.specs.Rings.{rings_of}
use Rattle.rings.specs.Lent.{lent}
use Rattle.notices.specs.Code.{destroy-one}
use native.Mathlib.Omega.{arith}
use Rattle.notices.proofs.destroy_one.Goals as goal

pub notice-e-requires : goal.notice-e-requires
notice-e-requires c = omega (arith, c.requires.3)

pub returns-clause-done : goal.returns-clause-done
returns-clause-done c = let a = c.args in destroy-one a.nodes.now a.handles.now a.charges.now (lent a.rings.now) a.p.0 a.s a.n (rw c.view.ensures.rings at c.addressees-to.ensures) c.one_slot-m.ensures c.withdraw.ensures.done c.set_dead.ensures c.notice-e.ensures c.post.ensures.done
