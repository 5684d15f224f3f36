-- `judges::judge_create` meets its contract: each return is one row of the model's cascade, with the slot that the search found. Assumes nothing.
use Rattle.judges.specs.CodeCreates.{create-refused, create-held, create-full, create-granted}
use Rattle.rings.specs.Lent.{viewed}
use Rattle.judges.specs.CodeOrders.{refusal-some}
use Rattle.rings.specs.Rings.{rings_of}
use Rattle.std.proofs.Common.{ap, is_some}
use Rattle.std.proofs.lemmas.Result.{err_from_is_err_and}
use Rattle.std.proofs.Math.Path.{refl}
use Rattle.judges.proofs.judge_create.Goals as goal

pub returns-in_err-starts : goal.returns-in_err-starts
returns-in_err-starts c = let p = err_from_is_err_and c.from_residual.result c.from_residual.ensures.1 in rw (p.1, p.2) (create-refused c.args.peers.now c.args.p c.requires.6 c.in_err-starts.ensures c.args.nodes.now c.args.handles.now c.args.charges.now (viewed c.args.rings.now) c.args.seeds.now c.args.i (refusal-some c.in_err-starts.field-0.0))

pub returns-in_default : goal.returns-in_default
returns-in_default c = create-held c.args.peers.now c.args.p c.requires.6 c.in_ok-starts.ensures c.args.nodes.now c.args.handles.now c.args.charges.now (viewed c.args.rings.now) c.args.seeds.now c.args.i refl c.find.ensures (ap is_some c.in_default.is)

pub returns-in_default-free_slot : goal.returns-in_default-free_slot
returns-in_default-free_slot c = (create-full c.args.peers.now c.args.p c.requires.6 c.in_ok-starts.ensures c.args.nodes.now c.args.handles.now c.args.charges.now (viewed c.args.rings.now) c.args.seeds.now c.args.i refl c.find.ensures (ap is_some c.in-None.is) c.free_slot.ensures c.in_default-free_slot.is)

pub returns : goal.returns
returns c = create-granted c.args.peers.now c.args.p c.requires.6 c.in_ok-starts.ensures c.args.nodes.now c.args.handles.now c.args.charges.now (viewed c.args.rings.now) c.args.seeds.now c.args.i refl c.find.ensures (ap is_some c.in-None.is) c.free_slot.ensures c.in-Some.s c.in-Some.is
