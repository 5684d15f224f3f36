-- `notices::post` meets its contract: after each turn what is left to do gives what the whole gives. Assumes nothing.
use Rattle.rings.specs.Rings.{rings_of}
use Rattle.rings.specs.Lent.{lent, same-self, same-again}
use Rattle.notices.specs.Code.{posting-start, posting-none, posting-next, posting-all}
use Rattle.notices.proofs.post.Goals as goal

pub loop-init : goal.loop-init
loop-init c = record { same = same-self; done = let a = c.args in posting-start (lent a.rings.now) _ _ a.rings.now.sized.ends a.rings.now.sized.rows }

pub returns-then-rest-eq0-clause-done : goal.returns-then-rest-eq0-clause-done
returns-then-rest-eq0-clause-done c = let a = c.args in posting-none (lent a.rings.now) a.e a.set c.loop.invariant.done c.if-rest-eq0.true

pub loop-preserved : goal.loop-preserved
loop-preserved c = record { same = same-again c.loop.invariant.same c.enter.ensures.same; done = let a = c.args in posting-next (lent a.rings.now) a.e a.set c.loop.invariant.done c.loop-test.true c.if-rest-eq0.false c.lowest-q.ensures.0 c.enter.ensures.done c.without-rest.ensures }

pub returns-clause-done : goal.returns-clause-done
returns-clause-done c = let a = c.args in posting-all (lent a.rings.now) a.e a.set c.loop.invariant.done c.loop-test.false
