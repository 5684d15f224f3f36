-- `queues::named` meets its contract: the loop's invariant is that no queue passed names the slot. Assumes nothing.
use mathlib.Core.Path.{sym, ◌∙◌}
use borrow.Author.Count.{below_more}
use Rattle.rings.specs.Rings.{rings_of}
use Rattle.rings.specs.Lent.{viewed}
use Rattle.queues.specs.Code.{named-found, named_none}
use native.Mathlib.Omega.{arith}
use Rattle.queues.proofs.named.Goals as goal

pub loop-q-init : goal.loop-q-init
loop-q-init c = (omega arith, λ k h. absurd (omega arith))

pub carries-requires : goal.carries-requires
carries-requires c = let z = c.requires in (z.0, omega arith, z.1 c.loop-q.q (omega arith))

pub returns-then-carries : goal.returns-then-carries
returns-then-carries c = let a = c.args in named-found a.charges.now (viewed a.rings.now) a.s c.loop-q.q c.loop-q-test.true c.carries.ensures c.if-carries.true

pub loop-q-preserved : goal.loop-q-preserved
loop-q-preserved c = (omega arith, below_more _ _ c.loop-q.invariant.1 (sym c.carries.ensures ∙ c.if-carries.false))

pub returns : goal.returns
returns c = let a = c.args in named_none a.charges.now (viewed a.rings.now) a.s (λ j l. c.loop-q.invariant.1 j (omega (arith, c.loop-q-test.false)))
