-- `effects::forget` meets its contract: each branch is that of the definition. Assumes nothing.
use Rattle.queues.specs.Queues.{queues_of}
use Rattle.queues.specs.Queued.{queued}
use Rattle.effects.specs.CodeChanges.{forget-own, forget-other}
use Rattle.effects.proofs.forget.Goals as goal

pub returns-then-s-p-clause-done : goal.returns-then-s-p-clause-done
returns-then-s-p-clause-done c = let a = c.args in forget-own a.nodes.now a.handles.now (queued a.charges.now a.rings.now a.pool.now) a.p.0 a.s c.if-s-p.true c.forget_own.ensures.done

pub returns-clause-done : goal.returns-clause-done
returns-clause-done c = let a = c.args in forget-other a.nodes.now a.handles.now (queued a.charges.now a.rings.now a.pool.now) a.p.0 a.s c.if-s-p.false c.expire.ensures.done
