-- `notices::expire_all` meets its contract: by the loop's invariant what is left to do gives what the whole gives. Assumes nothing.
use native.Mathlib.Omega.{arith}
use Rattle.rings.specs.Rings.{rings_of}
use Rattle.rings.specs.Lent.{lent, same-self, same-again}
use Rattle.notices.specs.Code.{passing-long, passing-start, passing-next, passing-all}
use Rattle.notices.proofs.expire_all.Goals as goal

pub returns-then-len-gt-RING-clause-done : goal.returns-then-len-gt-RING-clause-done
returns-then-len-gt-RING-clause-done c = let a = c.args in passing-long a.nodes.now a.handles.now a.charges.now a.p.0 (lent a.rings.now) c.len-len.ensures.0 c.if-len-gt-RING.true

pub loop-i-init : goal.loop-i-init
loop-i-init c = record { same = same-self; done = let a = c.args in passing-start a.nodes.now a.handles.now a.charges.now a.p.0 (lent a.rings.now) c.args.rings.now.sized.ends c.args.rings.now.sized.rows c.len-len.ensures.0 c.if-len-gt-RING.false }

pub expire_at-requires : goal.expire_at-requires
expire_at-requires c = let z = c.requires in let v = c.loop-i.invariant.done in (z.0, z.1, z.2, z.3, omega (arith, v.places))

pub loop-i-preserved : goal.loop-i-preserved
loop-i-preserved c = record { same = same-again c.loop-i.invariant.same c.expire_at.ensures.same; done = let a = c.args in passing-next a.nodes.now a.handles.now a.charges.now a.p.0 (lent a.rings.now) c.loop-i.invariant.done c.loop-i-test.true c.expire_at.ensures.done }

pub returns-clause-done : goal.returns-clause-done
returns-clause-done c = let a = c.args in passing-all a.nodes.now a.handles.now a.charges.now a.p.0 (lent a.rings.now) c.loop-i.invariant.done c.loop-i-test.false
