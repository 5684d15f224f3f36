-- `effects::forget_own` meets its contract: without attached handles one removal; else a removal, and the expiry of what it leaves. Assumes nothing.
use Rattle.queues.specs.Queues.{queues_of}
use Rattle.queues.specs.Queued.{queued}
use Rattle.effects.specs.CodeChanges.{forget-bare, forget-laden}
use Rattle.effects.proofs.forget_own.Goals as goal

pub returns-then-attached-eq0-clause-done : goal.returns-then-attached-eq0-clause-done
returns-then-attached-eq0-clause-done c = let a = c.args in forget-bare a.nodes.now a.handles.now (queued a.charges.now a.rings.now a.pool.now) a.p.0 a.s c.load.ensures c.attached.ensures c.if-attached-eq0.true c.one_slot-m.ensures c.remove.ensures.done

pub returns-clause-done : goal.returns-clause-done
returns-clause-done c = let a = c.args in forget-laden a.nodes.now a.handles.now (queued a.charges.now a.rings.now a.pool.now) a.p.0 a.s c.load.ensures c.attached.ensures c.if-attached-eq0.false c.one_slot-m-2.ensures c.remove-2.ensures.done c.expire_all.ensures.done
