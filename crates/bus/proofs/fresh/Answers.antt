-- `bus::fresh` meets its contract: where the lengths are right, every buffer cleared is that of a fresh bus. Assumes nothing.
use Rattle.bus.specs.Code.{fresh-refused, fresh-made}
use Rattle.bus.proofs.fresh.Goals as goal

pub returns-then-not-sized : goal.returns-then-not-sized
returns-then-not-sized c = fresh-refused _ c.sized.ensures c.if-not-sized.true

pub returns : goal.returns
returns c = fresh-made _ c.sized.ensures c.if-not-sized.false (c.fill.ensures.after (λ y e. e)) (c.fill-2.ensures.after (λ y e. e)) (c.fill-3.ensures.after (λ y e. e)) (c.fill-4.ensures.after (λ y e. e)) (c.fill-5.ensures.after (λ y e. e)) (c.fill-6.ensures.after (λ y e. e)) (c.fill-7.ensures.after (λ y e. e)) (c.fill-8.ensures.after (λ y e. e)) (c.fill-9.ensures.after (λ y e. e)) (c.fill-10.ensures.after (λ y e. e))
