-- `judges::judge_destroy` meets its contract: each return is one row of the model's cascade, with the slot that the lookup found. Assumes nothing.
use Rattle.judges.specs.CodeOrders.{destroy-refused, destroy-missing, destroy-foreign, destroy-dead, destroy-granted, refusal-some}
use Rattle.std.proofs.lemmas.Result.{err_from_is_err_and}
use Rattle.std.proofs.Math.Path.{refl}
use Rattle.judges.proofs.judge_destroy.Goals as goal

pub returns-in_err-starts : goal.returns-in_err-starts
returns-in_err-starts c = let p = err_from_is_err_and c.from_residual.result c.from_residual.ensures.1 in rw (p.1, p.2) (destroy-refused c.args.peers.now c.args.p c.requires.3 c.in_err-starts.ensures c.args.nodes.now c.args.handles.now c.args.i (refusal-some c.in_err-starts.field-0.0))

pub returns-in_default : goal.returns-in_default
returns-in_default c = (destroy-missing c.args.peers.now c.args.p c.requires.3 c.in_ok-starts.ensures c.args.nodes.now c.args.handles.now c.args.i refl c.find.ensures c.in_default.is)

pub returns-then-s-p : goal.returns-then-s-p
returns-then-s-p c = destroy-foreign c.args.peers.now c.args.p c.requires.3 c.in_ok-starts.ensures c.args.nodes.now c.args.handles.now c.args.i refl c.find.ensures c.in-Some.s c.in-Some.is c.if-s-p.true

pub returns-then-not-is_live : goal.returns-then-not-is_live
returns-then-not-is_live c = destroy-dead c.args.peers.now c.args.p c.requires.3 c.in_ok-starts.ensures c.args.nodes.now c.args.handles.now c.args.i refl c.find.ensures c.in-Some.s c.in-Some.is c.if-s-p.false c.is_live.ensures c.if-not-is_live.true

pub returns : goal.returns
returns c = destroy-granted c.args.peers.now c.args.p c.requires.3 c.in_ok-starts.ensures c.args.nodes.now c.args.handles.now c.args.i refl c.find.ensures c.in-Some.s c.in-Some.is c.if-s-p.false c.is_live.ensures c.if-not-is_live.false
