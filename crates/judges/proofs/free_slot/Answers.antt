-- `judges::free_slot` meets its contract: the loop's invariant is that every slot passed counts, so the first that does not is the one found. Assumes nothing.
use Rattle.judges.specs.CodeCreates.{taken_free, taken-all}
use Rattle.rings.specs.Lent.{viewed}
use Rattle.rings.specs.Rings.{rings_of}
use native.Mathlib.Omega.{arith}
use Rattle.judges.proofs.free_slot.Goals as goal

pub returns-then-not-counts : goal.returns-then-not-counts
returns-then-not-counts c = taken_free c.args.nodes.now c.args.handles.now c.args.charges.now (viewed c.args.rings.now) c.args.seeds.now c.args.p.0 c.loop-k.k c.loop-k.invariant (omega arith) c.counts.ensures c.if-not-counts.true

pub returns : goal.returns
returns c = taken-all c.args.nodes.now c.args.handles.now c.args.charges.now (viewed c.args.rings.now) c.args.seeds.now c.args.p.0 c.loop-k.k c.loop-k.invariant (omega arith)
