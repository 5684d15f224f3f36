-- `judges::counts` meets its contract: the node lives, is held, is named by a message or by a seed, in the order of the model's test. Assumes nothing.
use Rattle.judges.specs.CodeCreates.{counts-live, counts-held, counts-named, counts-seeded}
use Rattle.rings.specs.Lent.{viewed}
use Rattle.rings.specs.Rings.{rings_of}
use Rattle.judges.proofs.counts.Goals as goal

pub returns-then-is_live : goal.returns-then-is_live
returns-then-is_live c = counts-live c.args.nodes.now c.args.handles.now c.args.charges.now (viewed c.args.rings.now) c.args.seeds.now c.args.s c.is_live.ensures c.if-is_live.true

pub returns-then-holders-ne0 : goal.returns-then-holders-ne0
returns-then-holders-ne0 c = counts-held c.args.nodes.now c.args.handles.now c.args.charges.now (viewed c.args.rings.now) c.args.seeds.now c.args.s c.is_live.ensures c.if-is_live.false c.holders.ensures c.if-holders-ne0.true

pub returns-then-named : goal.returns-then-named
returns-then-named c = counts-named c.args.nodes.now c.args.handles.now c.args.charges.now (viewed c.args.rings.now) c.args.seeds.now c.args.s c.is_live.ensures c.if-is_live.false c.holders.ensures c.if-holders-ne0.false c.named.ensures c.if-named.true

pub returns : goal.returns
returns c = counts-seeded c.args.nodes.now c.args.handles.now c.args.charges.now (viewed c.args.rings.now) c.args.seeds.now c.args.s c.is_live.ensures c.if-is_live.false c.holders.ensures c.if-holders-ne0.false c.named.ensures c.if-named.false c.names.ensures
