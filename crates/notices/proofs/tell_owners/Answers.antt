-- `notices::tell_owners` meets its contract: the loop's invariant is the rings after the owners passed are told. Assumes nothing.
use Rattle.rings.specs.Rings.{rings_of}
use Rattle.rings.specs.Lent.{lent, same-self, same-again}
use Rattle.notices.specs.Code.{owning-start, owning-next, owning-all}
use Rattle.notices.proofs.tell_owners.Goals as goal

pub loop-q-init : goal.loop-q-init
loop-q-init c = record { same = same-self; done = let a = c.args in owning-start _ _ _ _ (lent a.rings.now) c.args.rings.now.sized.ends c.args.rings.now.sized.rows }

pub loop-q-preserved : goal.loop-q-preserved
loop-q-preserved c = record { same = same-again c.loop-q.invariant.same c.tell.ensures.same; done = let a = c.args in owning-next a.nodes.now a.handles.now a.p.0 a.n (lent a.rings.now) c.loop-q.invariant.done c.loop-q-test.true c.set_of-set.ensures c.tell.ensures.done }

pub returns-clause-done : goal.returns-clause-done
returns-clause-done c = let a = c.args in owning-all a.nodes.now a.handles.now a.p.0 a.n (lent a.rings.now) c.loop-q.invariant.done c.loop-q-test.false
