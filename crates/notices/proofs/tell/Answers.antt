-- `notices::tell` meets its contract: after each turn what is left to do gives what the whole gives. Assumes nothing.
use mathlib.Core.Path.{refl}
use Rattle.rings.specs.Rings.{rings_of}
use Rattle.rings.specs.Lent.{lent, same-self, same-again}
use Rattle.notices.specs.Code.{telling-start, telling-none, telling-next, telling-all}
use Rattle.notices.proofs.tell.Goals as goal

pub loop-init : goal.loop-init
loop-init c = record { same = same-self; done = telling-start c.args.nodes.now _ _ _ _ _ (lent c.args.rings.now) _ c.args.rings.now.sized.ends c.args.rings.now.sized.rows }

pub returns-in_default-clause-done : goal.returns-in_default-clause-done
returns-in_default-clause-done c = telling-none c.args.nodes.now c.args.handles.now _ c.args.q.0 c.args.kind c.args.n (lent c.args.rings.now) c.args.set c.loop.invariant.done c.least_id.ensures c.in_default.is

pub set_of-rest-requires : goal.set_of-rest-requires
set_of-rest-requires c = (c.requires.0, c.requires.1, c.requires.2, tt)

pub loop-preserved : goal.loop-preserved
loop-preserved c = record { same = same-again c.loop.invariant.same c.post.ensures.same; done = telling-next c.args.nodes.now c.args.handles.now _ c.args.q.0 c.args.kind c.args.n (lent c.args.rings.now) c.args.set c.loop.invariant.done c.least_id.ensures c.loop-test.true c.in-Some.is refl c.notice-e.ensures c.post.ensures.done c.set_of-rest.ensures }

pub returns-clause-done : goal.returns-clause-done
returns-clause-done c = telling-all c.args.nodes.now c.args.handles.now _ c.args.q.0 c.args.kind c.args.n (lent c.args.rings.now) c.args.set c.loop.invariant.done c.loop-test.false
