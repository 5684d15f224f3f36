-- `notices::destroy_set` meets its contract: the calls give the definition's two parts. Assumes nothing.
use Rattle.rings.specs.Rings.{rings_of}
use Rattle.rings.specs.Lent.{lent}
use Rattle.notices.specs.Code.{destroy-done}
use native.Mathlib.Omega.{arith}
use Rattle.notices.proofs.destroy_set.Goals as goal

pub tell-requires : goal.tell-requires
tell-requires c = let w = c.withdraw in let z = c.requires in (omega (arith, c.bury.auto.nodes, z.0), z.1, z.3)

pub returns-clause-done : goal.returns-clause-done
returns-clause-done c = let a = c.args in destroy-done a.nodes.now a.handles.now a.charges.now (lent a.rings.now) a.p.0 a.set a.n (rw c.view.ensures.rings at c.addressees_of-to.ensures) c.withdraw.ensures.done c.bury.ensures c.tell.ensures.done
