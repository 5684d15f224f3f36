-- `effects::release` meets its contract: the queues after the branch are those of the definition, whose rings the notice enters; the tables keep their lengths on both sides. Assumes nothing.
use mathlib.Core.Path.{ap, ◌∙◌}
use Rattle.rings.specs.declared.lent.RingTables.{RingTables}
use Rattle.queues.specs.Queues.{queues_of}
use Rattle.queues.specs.Queued.{queued}
use Rattle.effects.specs.CodeChanges.{queues-same, left-none, left-some, release-done}
use Rattle.effects.proofs.release.Goals as goal
use Rattle.effects.proofs.release.Goals.{then-left-eq0, else-left-eq0}

pub returns-clause-done : goal.returns-clause-done
returns-clause-done c = let a = c.args in release-done a.peers.now a.nodes.now a.handles.now (queued a.charges.now a.rings.now a.pool.now) a.p.0 a.s c.next_number-n.ensures c.drop_reference-left.ensures (elim c.if-left-eq0.branch [ then-left-eq0 w ↦ left-none a.nodes.now a.handles.now (queued a.charges.now a.rings.now a.pool.now) a.p.0 a.s c.drop_reference-left.ensures w.if-left-eq0.true (queues-same w.charges-is (ap (λ (r : RingTables). r.ends.now) w.rings-is) (ap (λ (r : RingTables). r.entries.now) w.rings-is) (ap (λ (r : RingTables). r.carried.now) w.rings-is) (ap (λ (r : RingTables). r.numbers.now) w.rings-is) w.pool-is ∙ w.forget.ensures.done) | else-left-eq0 w ↦ left-some a.nodes.now a.handles.now (queued a.charges.now a.rings.now a.pool.now) a.p.0 a.s c.drop_reference-left.ensures w.if-left-eq0.false (queues-same w.charges-is (ap (λ (r : RingTables). r.ends.now) w.rings-is) (ap (λ (r : RingTables). r.entries.now) w.rings-is) (ap (λ (r : RingTables). r.carried.now) w.rings-is) (ap (λ (r : RingTables). r.numbers.now) w.rings-is) w.pool-is) ]) c.notify.ensures.done
